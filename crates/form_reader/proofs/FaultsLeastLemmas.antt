-- The answered fault is the least.
use Rattle.std.proofs.Common.{◌≡◌, refl, subst, cond, Bool, true, false, List, [], ◌∷◌, Option, Some, None, arith}
use Rattle.std.proofs.lemmas.Bool.Decides.{nat_tests}
use Rattle.form_reader.specs.declared.fault.Fault.{Fault}
use Rattle.form_reader.specs.Faults.{AnswersLeast, IsAmong, here, behind, comes_first, first, least_fault}

reflexive : (f : Fault) → comes_first f f ≡ true
reflexive f = grind (arith, nat_tests)

transitive : (f g h : Fault) → comes_first f g ≡ true → comes_first g h ≡ true
    → comes_first f h ≡ true
transitive f g h a b = grind (arith, nat_tests)

total : (f g : Fault) → comes_first f g ≡ false → comes_first g f ≡ true
total f g a = grind (arith, nat_tests)

-- the first of some faults, where one was found before: it is that or one of these, and comes before all of them
pub record Leads (f g : Fault) (fs : List Fault) : Type 0 where
  pub among : IsAmong g (f ∷ fs)
  pub first : (h : Fault) → IsAmong h (f ∷ fs) → comes_first g h ≡ true

abbrev Led : Fault → List Fault → Option Fault → Type 0
Led f fs None = ⊥
Led f fs (Some g) = Leads f g fs

among_lift : {x f g : Fault} {fs : List Fault} → IsAmong x (f ∷ fs) → IsAmong x (f ∷ g ∷ fs)
among_lift here = here
among_lift (behind r) = behind (behind r)

-- the earlier one stays
stays : (f g : Fault) (fs : List Fault) (o : Option Fault) → comes_first f g ≡ true → Led f fs o
    → Led f (g ∷ fs) o
stays f g fs None e l = l
stays f g fs (Some k) e l = record { among = among_lift l.among; first = leads }
  where
    leads : (h : Fault) → IsAmong h (f ∷ g ∷ fs) → comes_first k h ≡ true
    leads h here = l.first f here
    leads h (behind here) = transitive k f g (l.first f here) e
    leads h (behind (behind r)) = l.first h (behind r)

-- the new one is taken
taken : (f g : Fault) (fs : List Fault) (o : Option Fault) → comes_first f g ≡ false → Led g fs o
    → Led f (g ∷ fs) o
taken f g fs None e l = l
taken f g fs (Some k) e l = record { among = behind l.among; first = leads }
  where
    leads : (h : Fault) → IsAmong h (f ∷ g ∷ fs) → comes_first k h ≡ true
    leads h here = transitive k g f (l.first g here) (total f g e)
    leads h (behind r) = l.first h r

chosen : (f g : Fault) (fs : List Fault) (b : Bool) → comes_first f g ≡ b
    → Led f fs (first (Some f) fs) → Led g fs (first (Some g) fs)
    → Led f (g ∷ fs) (first (cond b (Some f) (Some g)) fs)
chosen f g fs true e one other = stays f g fs (first (Some f) fs) e one
chosen f g fs false e one other = taken f g fs (first (Some g) fs) e other

led : (f : Fault) (fs : List Fault) → Led f fs (first (Some f) fs)
led f [] = record { among = here; first = only }
  where
    only : (h : Fault) → IsAmong h (f ∷ []) → comes_first f h ≡ true
    only h here = reflexive f
    only h (behind r) = absurd (nothing_among r)
      where
        nothing_among : {x : Fault} → IsAmong x [] → ⊥
        nothing_among r = elim r [ ]
led f (g ∷ fs) = chosen f g fs (comes_first f g) refl (led f fs) (led g fs)

answered : (f : Fault) (fs : List Fault) (o : Option Fault) → Led f fs o → AnswersLeast (f ∷ fs) o
answered f fs None l = absurd l
answered f fs (Some g) l = record { among = l.among; first = l.first }

pub least_answers : (fs : List Fault) → AnswersLeast fs (least_fault fs)
least_answers [] = refl
least_answers (f ∷ fs) = answered f fs (first (Some f) fs) (led f fs)

-- no fault is answered only where there is none
pub none_is_none : (fs : List Fault) → least_fault fs ≡ None → fs ≡ []
none_is_none fs e = subst (AnswersLeast fs) e (least_answers fs)
