-- Members of which none runs.
use Rattle.std.proofs.Common.{◌≡◌, ℕ, zero, suc, Bool, true, false, not, List, [], ◌∷◌, ◌++◌, refl, slice_get}
use Rattle.std.proofs.lemmas.Bool.{not-true}
use Rattle.std.specs.Cmp.{first_so, second_so}
use Rattle.gen_host.specs.Members.{all_idle, at_member}

-- then none at any place runs
pub idle_at : {B : Type 0} (running : B → Bool) (xs : List B) → all_idle running xs ≡ true → (k : ℕ)
    → at_member false running (slice_get xs k) ≡ false
idle_at running [] all zero = refl
idle_at running [] all (suc k) = refl
idle_at running (x ∷ xs) all zero =
    not-true (running x) (first_so (not (running x)) (all_idle running xs) all)
idle_at running (x ∷ xs) all (suc k) =
    idle_at running xs (second_so (not (running x)) (all_idle running xs) all) k

-- one more that doesn't run
pub idle_push : {B : Type 0} (running : B → Bool) (xs : List B) (y : B) → all_idle running xs ≡ true
    → running y ≡ false
    → all_idle running (xs ++ y ∷ []) ≡ true
idle_push running [] y all here = rw here refl
idle_push running (x ∷ xs) y all here =
    rw (first_so (not (running x)) (all_idle running xs) all)
    (idle_push running xs y (second_so (not (running x)) (all_idle running xs) all) here)
