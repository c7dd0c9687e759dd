-- How a condition is stored, by which proofs tell two of them apart.
use Rattle.std.specs.Prelude.{◌≡◌, ℕ, List, [], ◌∷◌, refl}
use Rattle.std.specs.Coded.{Coded}
use Rattle.std.proofs.Common.{ap, sym, ◌∙◌}
use base.Stored.{Gv, gnil, gnum, gcons}
use Rattle.task_model.specs.declared.condition.Term.{Term}
use Rattle.task_model.specs.declared.condition.Term.TheVariants.{Slot, Object}
use Rattle.task_model.specs.Condition.{Condition, Conditions}
use Rattle.task_model.specs.Condition.{Atom, Equal, All, Any, Not, Exists, none, more}

abbrev code_term : Term → Gv
code_term (Slot n) = gcons gnil (gnum n)
code_term (Object o) = gnum o

abbrev back_term : Gv → Term
back_term gnil = Slot 0
back_term (gnum o) = Object o
back_term (gcons a gnil) = Slot 0
back_term (gcons a (gnum n)) = Slot n
back_term (gcons a (gcons b c)) = Slot 0

back_term-code_term : (t : Term) → back_term (code_term t) ≡ t
back_term-code_term (Slot n) = refl
back_term-code_term (Object o) = refl

abbrev code_terms : List Term → Gv
code_terms [] = gnil
code_terms (t ∷ ts) = gcons (code_term t) (code_terms ts)

abbrev back_terms : Gv → List Term
back_terms gnil = []
back_terms (gnum n) = []
back_terms (gcons a b) = back_term a ∷ back_terms b

back_terms-code_terms : (ts : List Term) → back_terms (code_terms ts) ≡ ts
back_terms-code_terms [] = refl
back_terms-code_terms (t ∷ ts) = λ i. back_term-code_term t i ∷ back_terms-code_terms ts i

abbrev code_numbers : List ℕ → Gv
code_numbers [] = gnil
code_numbers (n ∷ ns) = gcons (gnum n) (code_numbers ns)

abbrev num_of : Gv → ℕ
num_of gnil = 0
num_of (gnum n) = n
num_of (gcons a b) = 0

abbrev back_numbers : Gv → List ℕ
back_numbers gnil = []
back_numbers (gnum n) = []
back_numbers (gcons a b) = num_of a ∷ back_numbers b

back_numbers-code_numbers : (ns : List ℕ) → back_numbers (code_numbers ns) ≡ ns
back_numbers-code_numbers [] = refl
back_numbers-code_numbers (n ∷ ns) = ap (λ xs. n ∷ xs) (back_numbers-code_numbers ns)

abbrev head : Gv → Gv
head gnil = gnil
head (gnum n) = gnil
head (gcons a b) = a

abbrev tail : Gv → Gv
tail gnil = gnil
tail (gnum n) = gnil
tail (gcons a b) = b

abbrev mutual
  code_condition : Condition → Gv
  code_condition (Atom pred args) = gcons (gnum 0) (gcons (gnum pred) (code_terms args))
  code_condition (Equal s t) = gcons (gnum 1) (gcons (code_term s) (code_term t))
  code_condition (All parts) = gcons (gnum 2) (code_conditions parts)
  code_condition (Any parts) = gcons (gnum 3) (code_conditions parts)
  code_condition (Not part) = gcons (gnum 4) (code_condition part)
  code_condition (Exists first sorts body) =
      gcons (gnum 5) (gcons (gcons (gnum first) (code_numbers sorts)) (code_condition body))

  code_conditions : Conditions → Gv
  code_conditions none = gnil
  code_conditions (more part parts) = gcons (code_condition part) (code_conditions parts)

inj_term : (s t : Term) → code_term s ≡ code_term t → s ≡ t
inj_term s t e = sym (back_term-code_term s) ∙ ap back_term e ∙ back_term-code_term t

inj_terms : (ss ts : List Term) → code_terms ss ≡ code_terms ts → ss ≡ ts
inj_terms ss ts e = sym (back_terms-code_terms ss) ∙ ap back_terms e ∙ back_terms-code_terms ts

inj_numbers : (ms ns : List ℕ) → code_numbers ms ≡ code_numbers ns → ms ≡ ns
inj_numbers ms ns e =
    sym (back_numbers-code_numbers ms) ∙ ap back_numbers e ∙ back_numbers-code_numbers ns

mutual
  inj_condition : (x y : Condition) → code_condition x ≡ code_condition y → x ≡ y
  inj_condition (Atom p xs) (Atom q ys) e =
      λ i. Atom (ap (λ g. num_of (head (tail g))) e i) (inj_terms xs ys (ap (λ g. tail (tail g)) e) i)
  inj_condition (Equal a b) (Equal c d) e =
      λ i. Equal (inj_term a c (ap (λ g. head (tail g)) e) i) (inj_term b d (ap (λ g. tail (tail g)) e) i)
  inj_condition (All xs) (All ys) e = ap All (inj_conditions xs ys (ap tail e))
  inj_condition (Any xs) (Any ys) e = ap Any (inj_conditions xs ys (ap tail e))
  inj_condition (Not x) (Not y) e = ap Not (inj_condition x y (ap tail e))
  inj_condition (Exists f ss x) (Exists g ts y) e =
      λ i. Exists (ap (λ h. num_of (head (head (tail h)))) e i)
      (inj_numbers ss ts (ap (λ h. tail (head (tail h))) e) i) (inj_condition x y (ap (λ h. tail (tail h)) e) i)
  inj_condition x y e = absurd (cc)

  inj_conditions : (xs ys : Conditions) → code_conditions xs ≡ code_conditions ys → xs ≡ ys
  inj_conditions none none e = refl
  inj_conditions (more x xs) (more y ys) e =
      λ i. more (inj_condition x y (ap head e) i) (inj_conditions xs ys (ap tail e) i)
  inj_conditions none (more y ys) e = absurd (cc)
  inj_conditions (more x xs) none e = absurd (cc)

pub coded_condition : Coded Condition
coded_condition = record { code = code_condition; inj = inj_condition }
