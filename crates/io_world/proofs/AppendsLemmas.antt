-- Bytes that grow by pieces.
use Rattle.std.proofs.Common.{◌≡◌, ℕ, ◌+◌, ◌-◌, List, ◌++◌, length, take, drop, Option, Some, None, sym, ap, ◌∙◌, append_assoc, ◌≤◌, arith, length-drop}
use Rattle.std.specs.Io.KnownBytes.{Appends}
use Rattle.std.proofs.Math.Seq.{take-add}
use Rattle.io_world.proofs.GivenLemmas.{behind}

-- the next piece of some bytes
pub piece_more : (done n : ℕ) (bytes : List ℕ)
    → take (done + n) bytes ≡ take done bytes ++ take n (take (length bytes - done) (drop done bytes))
piece_more done n bytes = rw (behind done bytes) (take-add done n bytes)

-- grown by one part and then by another
pub grown : (old mid new : Option (List ℕ)) (xs ys zs : List ℕ) → zs ≡ xs ++ ys → Appends old mid xs
    → Appends mid new ys
    → Appends old new zs
grown None mid new xs ys zs all first second = tt
grown (Some a) None new xs ys zs all first second = absurd first
grown (Some a) (Some b) None xs ys zs all first second = absurd second
grown (Some a) (Some b) (Some c) xs ys zs all first second =
    second ∙ ap (λ front. front ++ ys) first ∙ append_assoc a xs ys ∙ ap (λ tail. a ++ tail) (sym all)

-- a piece stays within its bytes
pub piece_within : (done n : ℕ) (bytes : List ℕ) → done ≤ length bytes
    → n ≤ length (take (length bytes - done) (drop done bytes))
    → done + n ≤ length bytes
piece_within done n bytes within here =
    let e = ap length (behind done bytes) in
    omega (arith, here, e, length-drop done bytes)
