-- The pool of the run's words.
use Rattle.std.proofs.Common.{ℕ, zero, suc, List, [], ◌∷◌, codes, refl, arith, lit<, String, Vec}
use Rattle.std.proofs.lemmas.Str.{IsUtf8-from_ascii}
use Rattle.std.specs.Str.{IsAscii}
use Rattle.std.specs.declared.alloc.Global.{Global}
use Rattle.stream_map.specs.Accepted.{Accepted}
use Rattle.stream_map.specs.Form.{words_form}
use Rattle.stream_map.specs.Spelled.{is_grid_word}
use Rattle.transcript_model.specs.declared.head.Pool.{Pool}
use Rattle.witness_laws.specs.Fetch.{fetch}
use denote.RawPtr.{null_ptr}

pub grip_ascii : IsAscii (codes "grip")
grip_ascii zero = lit< tt
grip_ascii (suc zero) = lit< tt
grip_ascii (suc (suc zero)) = lit< tt
grip_ascii (suc (suc (suc zero))) = lit< tt
grip_ascii (suc (suc (suc (suc i)))) = lit< tt

-- the word, as a text of an allocator
abbrev grip_bytes : Global → Vec ℕ Global
grip_bytes g = record {
  ptr = null_ptr;
  len = 4;
  cap = 4;
  alloc = g;
  items = codes "grip";
  ok = (refl, omega arith);
  small = omega arith;
}

abbrev grip_word : Global → String Global
grip_word g = record { bytes = grip_bytes g; ok = ∣ IsUtf8-from_ascii (codes "grip") grip_ascii ∣₁ }

abbrev pub cup_pools : Global → List Pool
cup_pools g = record { first = 0; workers = 1; streams = 0 ∷ []; argv = grip_word g ∷ [] } ∷ []

pub cup_accepted : (g : Global) → Accepted fetch (words_form fetch (codes "grip" ∷ []) 1) (cup_pools g)
unfolding is_grid_word
cup_accepted g = record {
  spelled = record { run = codes "grip" ∷ []; workers = 1; streams = codes "grip" ∷ [] } ∷ [];
  form_is = refl;
  right = refl;
  pools_are = refl;
}
