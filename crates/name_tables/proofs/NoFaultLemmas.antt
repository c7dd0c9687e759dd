-- What follows where there are no faults.
use Rattle.std.proofs.Common.{◌≡◌, ℕ, Bool, true, false, if◌then◌else◌, List, [], ◌∷◌, refl}
use Rattle.form_reader.specs.declared.fault.InputKind.{InputKind}
use Rattle.name_tables.specs.Variables.{unless}

pub some_fault : {A : Type 0} (x : A) (xs : List A) → x ∷ xs ≡ [] → ⊥
some_fault x xs e = cc

pub met : (b : Bool) (kind : InputKind) (place : ℕ) → unless b kind place ≡ [] → b ≡ true
met true kind place e = refl
met false kind place e = absurd (cc)

-- where a test chooses between faults and one fault, the test holds, and the faults are none
pub chosen : {A : Type 0} (b : Bool) (xs : List A) (y : A) (ys : List A)
    → if b then xs else y ∷ ys ≡ [] → (b ≡ true) × (xs ≡ [])
chosen true xs y ys e = (refl, e)
chosen false xs y ys e = absurd (some_fault y ys e)
