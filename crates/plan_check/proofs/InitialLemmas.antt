-- The atoms of `:init`, one after another.
use Rattle.std.proofs.Common.{append-nil, ◌≡◌, ◌≢◌, ℕ, zero, suc, ◌<◌, ◌≤◌, true, ◌&&◌, List, [], ◌∷◌, ◌++◌, length, take, get_or, refl, sym, ap, ◌∙◌, arith, Some, None, nat_lt}
use Rattle.std.proofs.lemmas.Bool.{ltb-true}
use Rattle.std.specs.Cmp.{first_so, second_so}
use Rattle.std.proofs.lemmas.List.Elements.{filter_map-append}
use Rattle.std.specs.List.{filter_map, list_all, cons_option}
use Rattle.task_model.specs.Fit.{IsFit, is_fit_fact, has_arity, is_short, is_predicate}
use Rattle.task_model.specs.Initial.{fluent_atom, fluent_by}
use Rattle.task_model.specs.Roles.{role_of}
use Rattle.task_model.specs.declared.domain.Domain.{Domain}
use Rattle.task_model.specs.declared.domain.Role.{Role}
use Rattle.task_model.specs.declared.domain.Role.TheVariants.{Static, Fluent, Derived}
use Rattle.task_model.specs.declared.fact.Atom.{Atom}
use Rattle.task_model.specs.declared.fact.Fact.{Fact}
use Rattle.task_model.specs.declared.fact.Kind.{Kind}
use Rattle.task_model.specs.declared.fact.Kind.TheVariants.{Predicate, Sort}
use Rattle.task_model.specs.declared.task.Task.{Task}
use Rattle.formula_eval.proofs.ReadableLemmas.{has_place}
use Rattle.lemmas.proofs.ListTests.{all_at_or}

-- the fluents' atoms among the first facts
abbrev pub fluents_of : Domain → List Fact → ℕ → List Atom
fluents_of domain facts n = filter_map (fluent_atom domain) (take n facts)

take-push : {A : Type 0} (xs : List A) (i : ℕ) (x : A) → i < length xs → x ≡ get_or xs i x
    → take (suc i) xs ≡ take i xs ++ x ∷ []
take-push [] i x h e = absurd (omega arith)
take-push (y ∷ ys) zero x h e = ap (λ z. z ∷ []) (sym e)
take-push (y ∷ ys) (suc i) x h e = ap (λ zs. y ∷ zs) (take-push ys i x (omega arith) e)

-- ---- the next fact

fluents_next : (domain : Domain) (facts : List Fact) (i : ℕ) (x : Fact) → i < length facts
    → x ≡ get_or facts i x
    → fluents_of domain facts (suc i) ≡ fluents_of domain facts i ++ cons_option (fluent_atom domain x) []
fluents_next domain facts i x h e =
    ap (filter_map (fluent_atom domain)) (take-push facts i x h e)
    ∙ filter_map-append (fluent_atom domain) (take i facts) (x ∷ [])

fluent_is : (domain : Domain) (x : Fact) → x.kind ≡ Predicate → role_of domain x.name ≡ Fluent
    → fluent_atom domain x ≡ Some (record { pred = x.name; args = x.args })
fluent_is domain x kind role = λ i. fluent_by x (kind i) (role i)

none_by : (x : Fact) (r : Role) → r ≢ Fluent → fluent_by x Predicate r ≡ None
none_by x Static other = refl
none_by x Fluent other = absurd (other refl)
none_by x Derived other = refl

not_fluent : (domain : Domain) (x : Fact) → x.kind ≡ Predicate → role_of domain x.name ≢ Fluent
    → fluent_atom domain x ≡ None
not_fluent domain x kind other =
    (λ i. fluent_by x (kind i) (role_of domain x.name)) ∙ none_by x (role_of domain x.name) other

pub fluents_more : (domain : Domain) (facts : List Fact) (i : ℕ) (x : Fact) → i < length facts
    → x ≡ get_or facts i x → x.kind ≡ Predicate → role_of domain x.name ≡ Fluent
    → fluents_of domain facts (suc i) ≡ fluents_of domain facts i ++ record { pred = x.name; args = x.args } ∷ []
fluents_more domain facts i x h e kind role =
    fluents_next domain facts i x h e
    ∙ ap (λ o. fluents_of domain facts i ++ cons_option o []) (fluent_is domain x kind role)

pub fluents_same : (domain : Domain) (facts : List Fact) (i : ℕ) (x : Fact) → i < length facts
    → x ≡ get_or facts i x → x.kind ≡ Predicate → role_of domain x.name ≢ Fluent
    → fluents_of domain facts (suc i) ≡ fluents_of domain facts i
fluents_same domain facts i x h e kind other =
    fluents_next domain facts i x h e ∙ ap (λ o. fluents_of domain facts i ++ cons_option o []) (not_fluent domain x kind other)
    ∙ append-nil (fluents_of domain facts i)

pub fluents_whole : (domain : Domain) (facts : List Fact) (n : ℕ) → length facts ≤ n
    → fluents_of domain facts n ≡ filter_map (fluent_atom domain) facts
fluents_whole domain facts n h = ap (filter_map (fluent_atom domain)) (take-all facts n h)
  where
    take-all : {A : Type 0} (xs : List A) (n : ℕ) → length xs ≤ n → take n xs ≡ xs
    take-all [] zero h = refl
    take-all [] (suc n) h = refl
    take-all (x ∷ xs) zero h = absurd (omega arith)
    take-all (x ∷ xs) (suc n) h = ap (λ ys. x ∷ ys) (take-all xs n (omega arith))

-- ---- facts of a fit task

pub fit_fact : (task : Task) → IsFit task → (i : ℕ) (x : Fact) → i < length task.problem.init
    → x ≡ get_or task.problem.init i x
    → is_fit_fact task.domain (length task.problem.objects) x ≡ true
fit_fact task fit i x h e =
    all_at_or (is_fit_fact task.domain (length task.problem.objects)) task.problem.init i x
    (second_so (is_short task.problem.init) _ fit.problem.init) h e

predicate_is : (k : Kind) → is_predicate k ≡ true → k ≡ Predicate
predicate_is Predicate e = refl
predicate_is Sort e = absurd (cc)

fact_front : (domain : Domain) (objects : ℕ) (x : Fact) → is_fit_fact domain objects x ≡ true
    → (is_predicate x.kind && has_arity domain.predicates x.name (length x.args)) ≡ true
fact_front domain objects x e =
    first_so (is_predicate x.kind && has_arity domain.predicates x.name (length x.args)) (list_all (λ o. nat_lt o objects) x.args)
    (first_so (is_predicate x.kind && has_arity domain.predicates x.name (length x.args) && list_all (λ o. nat_lt o objects) x.args) _ e)

pub fact_kind : (domain : Domain) (objects : ℕ) (x : Fact) → is_fit_fact domain objects x ≡ true
    → x.kind ≡ Predicate
fact_kind domain objects x e =
    predicate_is x.kind (first_so (is_predicate x.kind) _ (fact_front domain objects x e))

pub fact_place : (domain : Domain) (objects : ℕ) (x : Fact) → is_fit_fact domain objects x ≡ true
    → x.name < length domain.predicates
fact_place domain objects x e =
    ltb-true x.name (length domain.predicates)
    (has_place domain.predicates x.name (length x.args) (second_so (is_predicate x.kind) _ (fact_front domain objects x e)))

pub static_not_fluent : Static ≢ Fluent
static_not_fluent e = absurd (cc)

pub derived_not_fluent : Derived ≢ Fluent
derived_not_fluent e = absurd (cc)
