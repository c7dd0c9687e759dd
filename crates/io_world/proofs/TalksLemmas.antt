-- What is said in several calls.
use Rattle.std.proofs.Common.{◌≡◌, ℕ, ◌<◌, ◌≤◌, List, [], ◌∷◌, ◌++◌, length, take, Option, Some, None, Ok, refl, sym, ap, ◌∙◌, append_assoc, option_map}
use Rattle.std.proofs.lemmas.Bool.{eq-eqb}
use Rattle.std.proofs.lemmas.List.{append-nil}
use Rattle.std.proofs.lemmas.List.Elements.{All-append}
use Rattle.lemmas.proofs.ListTests.{all_one}
use Rattle.io_world.specs.Faults.{Extends}
use Rattle.io_world.specs.Talks.{Talk, Event, wrote, silence, wrote_more, Writes, IsTaken, Takes, Logs, LogsTaken}
use Rattle.io_world.proofs.LogsLemmas.{spelled-more}

-- a told list that grew by nothing
pub extends_none : {A : Type 0} (told : Option (List A)) → Extends told told []
extends_none None = tt
extends_none (Some list) = (list, refl, sym (append-nil list))

-- a told list that grew twice
pub extends_more : {A : Type 0} (old mid new : Option (List A)) (xs ys : List A)
    → Extends old mid xs → Extends mid new ys
    → Extends old new (xs ++ ys)
extends_more old mid None xs ys first second = tt
extends_more old None (Some after) xs ys first second = cc
extends_more old (Some middle) (Some after) xs ys first second =
    let same : middle ≡ second.0 = cc in
    (first.0, first.1, second.2 ∙ ap (λ front. front ++ ys) (sym same ∙ first.2) ∙ append_assoc first.0 xs ys)

written_none : (talk : Option Talk) → talk ≡ option_map (wrote_more []) talk
written_none None = refl
written_none (Some talk) = ap (λ bytes. Some (record { written = bytes; heard = talk.heard })) (sym (append-nil talk.written))

written_more : (talk : Option Talk) (xs ys : List ℕ)
    → option_map (wrote_more ys) (option_map (wrote_more xs) talk) ≡ option_map (wrote_more (xs ++ ys)) talk
written_more None xs ys = refl
written_more (Some talk) xs ys = ap (λ bytes. Some (record { written = bytes; heard = talk.heard })) (append_assoc talk.written xs ys)

-- nothing was written
pub writes_none : (child : ℕ) (spoken : ℕ → Option Talk) → Writes child [] spoken spoken
writes_none child spoken = record { here = written_none (spoken child); others = λ k other. refl }

-- written to twice
pub writes_more : (child : ℕ) (old mid new : ℕ → Option Talk) (xs ys zs : List ℕ) → zs ≡ xs ++ ys
    → Writes child xs old mid
    → Writes child ys mid new → Writes child zs old new
writes_more child old mid new xs ys zs all first second = record {
  here =
      second.here ∙ ap (option_map (wrote_more ys)) first.here ∙ written_more (old child) xs ys
      ∙ ap (λ bytes. option_map (wrote_more bytes) (old child)) (sym all);
  others = λ k other. second.others k other ∙ first.others k other;
}

-- one write more that was taken
pub takes_more : (child n : ℕ) (xs piece zs : List ℕ) (events : List Event)
    → zs ≡ xs ++ take n piece → 0 < n → n ≤ length piece
    → Takes child xs events → Takes child zs (events ++ wrote child piece (Ok n) ∷ [])
takes_more child n xs piece zs events all some within so_far = record {
  each = All-append (IsTaken child) events (wrote child piece (Ok n) ∷ []) so_far.each
      (all_one (IsTaken child) (wrote child piece (Ok n)) (refl, some, within));
  spells =
      spelled-more child silence events (wrote child piece (Ok n))
      ∙ rw (eq-eqb child child refl) (ap (wrote_more (take n piece)) so_far.spells ∙ ap (λ bytes. wrote_more bytes silence) (sym all));
}

-- the log with one write more that was taken
pub taken_more : (child n : ℕ) (xs piece zs : List ℕ) (old mid new : Option (List Event))
    → zs ≡ xs ++ take n piece → 0 < n
    → n ≤ length piece → LogsTaken child xs old mid → Logs mid new (wrote child piece (Ok n)) → LogsTaken child zs old new
taken_more child n xs piece zs old mid new all some within so_far more = (
  so_far.0 ++ wrote child piece (Ok n) ∷ [],
  takes_more child n xs piece zs so_far.0 all some within so_far.1,
  extends_more old mid new so_far.0 (wrote child piece (Ok n) ∷ []) so_far.2 more,
)
