-- As many objects as types.
use Rattle.std.proofs.Common.{◌≡◌, ℕ, suc, true, List, [], ◌∷◌, length, ap, refl}
use Rattle.std.specs.Cmp.{second_so}
use Rattle.task_model.specs.Known.{Known}
use Rattle.task_model.specs.Truth.{has_type, have_types}

pub have_types-length : (known : Known) (objects sorts : List ℕ)
    → have_types known objects sorts ≡ true → length objects ≡ length sorts
have_types-length known [] [] e = refl
have_types-length known [] (s ∷ ss) e = absurd (cc)
have_types-length known (o ∷ os) [] e = absurd (cc)
have_types-length known (o ∷ os) (s ∷ ss) e =
    ap suc (have_types-length known os ss (second_so (has_type known o s) (have_types known os ss) e))
