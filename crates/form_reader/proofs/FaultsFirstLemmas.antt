-- The answered fault of lists of faults.
use Rattle.std.proofs.Common.{◌≡◌, refl, List, [], ◌∷◌, ◌++◌, Option}
use Rattle.form_reader.specs.declared.fault.Fault.{Fault}
use Rattle.form_reader.specs.Faults.{first, sooner}

pub first_append : (so_far : Option Fault) (fs gs : List Fault)
    → first so_far (fs ++ gs) ≡ first (first so_far fs) gs
first_append so_far [] gs = refl
first_append so_far (f ∷ fs) gs = first_append (sooner so_far f) fs gs
