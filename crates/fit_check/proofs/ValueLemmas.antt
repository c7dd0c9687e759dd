-- The tests of roles and of values, against what they stand for.
use Rattle.std.proofs.Common.{◌≡◌, ℕ, zero, suc, ◌+◌, true, false, not, ◌&&◌, ◌==◌, List, [], ◌∷◌, map, length, refl, sym, ap, ◌∙◌, arith, Some, slice_get, eqb-true, eq-eqb}
use Rattle.std.specs.Cmp.{first_so, second_so}
use Rattle.std.specs.List.{list_any}
use Rattle.std.proofs.lemmas.Bool.{and_from, not-true, not_from_false, both_ways}
use Rattle.std.proofs.lemmas.Map.Keys.{any_passes_from_place}
use Rattle.task_model.proofs.KnownLemmas.{numbers_decided}
use Rattle.task_model.specs.Known.{same_numbers}
use Rattle.lemmas.specs.Lists.{numbers_from}
use Rattle.task_model.specs.Roles.{role_of}
use Rattle.task_model.specs.declared.domain.Domain.{Domain}
use Rattle.task_model.specs.declared.domain.Role.{Role}
use Rattle.task_model.specs.declared.domain.Role.TheVariants.{Static, Fluent, Derived}
use Rattle.task_model.specs.declared.task.Valued.{Valued}
use Rattle.lemmas.proofs.ListTests.{any_found}
use Rattle.fit_check.specs.Tests as tests

-- ---- roles

same_if : (r q : Role) → tests.same_role r q ≡ true → r ≡ q
same_if Static Static e = refl
same_if Fluent Fluent e = refl
same_if Derived Derived e = refl
same_if Static Fluent e = absurd (cc)
same_if Static Derived e = absurd (cc)
same_if Fluent Static e = absurd (cc)
same_if Fluent Derived e = absurd (cc)
same_if Derived Static e = absurd (cc)
same_if Derived Fluent e = absurd (cc)

same_itself : (r : Role) → tests.same_role r r ≡ true
same_itself Static = refl
same_itself Fluent = refl
same_itself Derived = refl

pub roles_if : (domain : Domain) (place n : ℕ) (rs : List Role) → length rs ≡ n
    → tests.are_right domain place rs ≡ true
    → rs ≡ map (role_of domain) (numbers_from place n)
roles_if domain place zero [] long e = refl
roles_if domain place (suc n) [] long e = absurd (omega arith)
roles_if domain place zero (r ∷ rs) long e = absurd (omega arith)
roles_if domain place (suc n) (r ∷ rs) long e =
    λ i. same_if r (role_of domain place) (first_so (tests.same_role r (role_of domain place)) (tests.are_right domain (place + 1) rs) e) i
    ∷ roles_if domain (place + 1) n rs (omega arith)
    (second_so (tests.same_role r (role_of domain place)) (tests.are_right domain (place + 1) rs) e) i

pub roles_right : (domain : Domain) (place n : ℕ)
    → tests.are_right domain place (map (role_of domain) (numbers_from place n)) ≡ true
roles_right domain place zero = refl
roles_right domain place (suc n) =
    and_from (tests.same_role (role_of domain place) (role_of domain place))
    (tests.are_right domain (place + 1) (map (role_of domain) (numbers_from (place + 1) n))) (same_itself (role_of domain place))
    (roles_right domain (place + 1) n)

pub roles_long : (domain : Domain) (place n : ℕ)
    → length (map (role_of domain) (numbers_from place n)) ≡ n
roles_long domain place zero = refl
roles_long domain place (suc n) = ap suc (roles_long domain (place + 1) n)

-- ---- values

equal_if : (v w : Valued) → tests.differ v w ≡ false → v.func ≡ w.func → v.args ≡ w.args
    → v.value ≡ w.value
equal_if v w e func args =
    elim (v.value == w.value) as (λ b. (v.value == w.value) ≡ b → v.value ≡ w.value) [
      | true ↦ λ same. eqb-true v.value w.value same
      | false ↦ λ other. absurd (both_ways (tests.differ v w) e
          (and_from _ _ (and_from _ _ (eq-eqb v.func w.func func) ((numbers_decided v.args w.args).1 args))
          (not_from_false (v.value == w.value) other)))
    ] refl

-- no value of the list is another of this term
none_differs : (v : Valued) (vs : List Valued) → not (list_any (tests.differ v) vs) ≡ true
    → (j : ℕ) (w : Valued) → slice_get vs j ≡ Some w
    → tests.differ v w ≡ false
none_differs v vs none j w g =
    elim (tests.differ v w) as (λ b. tests.differ v w ≡ b → tests.differ v w ≡ false) [
      | true ↦ λ t. absurd (both_ways (list_any (tests.differ v) vs)
          (not-true (list_any (tests.differ v) vs) none) (any_passes_from_place (tests.differ v) vs j w g t))
      | false ↦ λ f. f
    ] refl

pub one_value_if : (vs : List Valued) → tests.have_one_value vs ≡ true → (i j : ℕ) (v w : Valued)
    → slice_get vs i ≡ Some v
    → slice_get vs j ≡ Some w → v.func ≡ w.func → v.args ≡ w.args → v.value ≡ w.value
one_value_if [] e i j v w gi gj func args = absurd (cc)
one_value_if (x ∷ xs) e zero zero v w gi gj func args =
    let same : v ≡ w = cc in ap (λ (u : Valued). u.value) same
one_value_if (x ∷ xs) e zero (suc j) v w gi gj func args =
    let same : x ≡ v = cc in
    equal_if v w (ap (λ u. tests.differ u w) (sym same)
    ∙ none_differs x xs (first_so (not (list_any (tests.differ x) xs)) (tests.have_one_value xs) e) j w gj) func args
one_value_if (x ∷ xs) e (suc i) zero v w gi gj func args =
    let same : x ≡ w = cc in
    sym (equal_if w v (ap (λ u. tests.differ u v) (sym same)
    ∙ none_differs x xs (first_so (not (list_any (tests.differ x) xs)) (tests.have_one_value xs) e) i v gi) (sym func) (sym args))
one_value_if (x ∷ xs) e (suc i) (suc j) v w gi gj func args =
    one_value_if xs (second_so (not (list_any (tests.differ x) xs)) (tests.have_one_value xs) e) i j v w gi gj func args

differ_parts : (v w : Valued) → tests.differ v w ≡ true
    → (v.func ≡ w.func) × (v.args ≡ w.args) × (v.value ≡ w.value → ⊥)
differ_parts v w e =
    let front = first_so ((v.func == w.func) && same_numbers v.args w.args) (not (v.value == w.value)) e in
    let other =
    not-true (v.value == w.value) (second_so ((v.func == w.func) && same_numbers v.args w.args) (not (v.value == w.value)) e) in (
      eqb-true v.func w.func (first_so (v.func == w.func) (same_numbers v.args w.args) front),
      (numbers_decided v.args w.args).0 (second_so (v.func == w.func) (same_numbers v.args w.args) front),
      λ same. both_ways (v.value == w.value) other (eq-eqb v.value w.value same),
    )

pub one_value_from : (vs : List Valued)
    → ((i j : ℕ) (v w : Valued) → slice_get vs i ≡ Some v → slice_get vs j ≡ Some w → v.func ≡ w.func → v.args ≡ w.args → v.value ≡ w.value)
    → tests.have_one_value vs ≡ true
one_value_from [] one = refl
one_value_from (x ∷ xs) one =
    and_from (not (list_any (tests.differ x) xs)) (tests.have_one_value xs)
    (elim (list_any (tests.differ x) xs) as (λ b. list_any (tests.differ x) xs ≡ b → not b ≡ true) [
      | true ↦ λ t.
          let found = any_found (tests.differ x) xs t in
          let parts = differ_parts x found.1 found.3 in
          absurd (parts.2 (one 0 (suc found.0) x found.1 refl found.2 parts.0 parts.1))
      | false ↦ λ _. refl
    ] refl)
    (one_value_from xs (λ i j v w gi gj func args. one (suc i) (suc j) v w gi gj func args))
