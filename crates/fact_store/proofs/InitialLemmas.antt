-- What is known at first, part by part.
use Rattle.std.proofs.Common.{◌≡◌, ℕ, zero, suc, ◌+◌, ◌<◌, arith, true, ◌&&◌, List, [], ◌∷◌, ◌++◌, map, filter, take, drop, length, get_or, sym, ap, ◌∙◌, add-one, Some, slice_get, All, Contains, ltb-true, not, nat_lt, nat_le, option_map, false, cond, ◌||◌, ◌==◌, eqb-true, unwrap_or, refl}
use Rattle.std.proofs.Math.Seq.{drop-cons}
use Rattle.std.proofs.lemmas.Grind.{flat_map-append}
use Rattle.std.proofs.lemmas.List.{take-append-drop, take_more, map-append, append-nil, length-map, length-take, map_push, nil_from_length}
use Rattle.std.proofs.lemmas.List.Sums.{AllPass-from_list_all}
use Rattle.std.proofs.lemmas.Option.{slice_get-get_or, slice_get-map, slice_get_within}
use Rattle.std.specs.Cmp.{first_so, second_so}
use Rattle.std.specs.List.{list_all, flat_map, list_any}
use Rattle.lemmas.proofs.Members.{place_of, get_append}
use Rattle.task_model.specs.Fit.{has_arity, is_predicate, is_fit_fact, is_fit_value, is_derived_role}
use Rattle.task_model.specs.Initial.{type_facts, declared_types, declared_names, is_static, initial_known}
use Rattle.task_model.specs.Known.{Known, IsIn, type_fact, with_fact, with_facts, with_values, with_name, is_fact, same_fact}
use Rattle.lemmas.specs.Lists.{AreDistinct, numbers_from}
use Rattle.task_model.specs.Roles.{role_of}
use Rattle.task_model.specs.declared.domain.Declared.{Declared}
use Rattle.task_model.specs.declared.domain.Domain.{Domain}
use Rattle.task_model.specs.declared.domain.Role.{Role}
use Rattle.task_model.specs.declared.domain.Signature.{Signature}
use Rattle.task_model.specs.declared.fact.Fact.{Fact}
use Rattle.task_model.specs.declared.task.Task.{Task}
use Rattle.task_model.specs.declared.task.Valued.{Valued}
use Rattle.fact_store.proofs.StoreLemmas.{with_name-new}
use Rattle.lemmas.proofs.Numbers.{length-numbers_from, get-map-numbers}
use Rattle.task_model.proofs.KnownLemmas.{in_names, facts_then}
use Rattle.std.proofs.lemmas.List.Elements.{Contains-append_left, Contains-append_right}
use Rattle.std.proofs.lemmas.Bool.{or_left, or_right}
use Rattle.task_model.proofs.KnownLemmas.{fact_decided, fact_member, with_facts-is}

-- ---- facts

pub supertypes_then : (facts : List Fact) (object sort : ℕ) (above : List ℕ)
    → with_fact (with_facts (with_fact facts (type_fact sort object)) (map (λ s. type_fact s object) above)) (type_fact 0 object)
    ≡ with_facts facts (map (λ s. type_fact s object) (sort ∷ above ++ 0 ∷ []))
supertypes_then facts object sort above =
    sym (facts_then (with_fact facts (type_fact sort object)) (map (λ s. type_fact s object) above) (type_fact 0 object ∷ []))
    ∙ ap (with_facts (with_fact facts (type_fact sort object))) (sym (map-append (λ s. type_fact s object) above (0 ∷ [])))

-- ---- what is there already

pub known_already : (facts more : List Fact) (fact : Fact) → Contains more fact
    → with_fact (with_facts facts more) fact ≡ with_facts facts more
known_already facts more fact m =
    let there : is_fact (with_facts facts more) fact ≡ true =
    (fact_member (with_facts facts more) fact).1
    (((with_facts-is facts more).members fact).1 (Contains-append_right facts more fact m)) in
    ap (λ b. cond b (with_facts facts more) (with_facts facts more ++ fact ∷ [])) there

any_type : (object : ℕ) (sorts : List ℕ) → list_any (λ s. s == 0) sorts ≡ true
    → is_fact (map (λ s. type_fact s object) sorts) (type_fact 0 object) ≡ true
any_type object [] e = absurd (cc)
any_type object (s ∷ ss) e =
    elim (s == 0) as (λ b.
    (s == 0) ≡ b → (b || list_any (λ s. s == 0) ss) ≡ true
    → (same_fact (type_fact 0 object) (type_fact s object) || is_fact (map (λ s. type_fact s object) ss) (type_fact 0 object))
    ≡ true) [
      | true ↦ λ zero _. or_left _ _
          ((fact_decided (type_fact 0 object) (type_fact s object)).1 (ap (λ s. type_fact s object) (sym (eqb-true s 0 zero))))
      | false ↦ λ _ rest. or_right _ _ (any_type object ss rest)
    ] refl e

-- that it has `object` is said with the type
pub object_known : (facts : List Fact) (object sort : ℕ) (above : List ℕ)
    → list_any (λ s. s == 0) (sort ∷ above) ≡ true
    → with_fact (with_facts (with_fact facts (type_fact sort object)) (map (λ s. type_fact s object) above)) (type_fact 0 object)
    ≡ with_facts (with_fact facts (type_fact sort object)) (map (λ s. type_fact s object) above)
object_known facts object sort above e =
    known_already facts (map (λ s. type_fact s object) (sort ∷ above)) (type_fact 0 object)
    ((fact_member (map (λ s. type_fact s object) (sort ∷ above)) (type_fact 0 object)).0 (any_type object (sort ∷ above) e))

any_last : (xs : List ℕ) → list_any (λ s. s == 0) (xs ++ 0 ∷ []) ≡ true
any_last [] = refl
any_last (x ∷ xs) = or_right _ _ (any_last xs)

-- and with any type of a declared object
pub types_known : (domain : Domain) (facts : List Fact) (object : ℕ) (sorts : List ℕ)
    → 0 < length sorts
    → length (unwrap_or (option_map (λ s. s.above) (slice_get domain.sorts 0)) []) ≡ 0
    → with_facts (with_facts facts (flat_map (λ sort. type_facts domain sort object) sorts)) (type_facts domain 0 object)
    ≡ with_facts facts (flat_map (λ sort. type_facts domain sort object) sorts)
types_known domain facts object [] some none = absurd (omega arith)
types_known domain facts object (sort ∷ sorts) some none =
    let above = unwrap_or (option_map (λ s. s.above) (slice_get domain.sorts sort)) [] in
    let more = flat_map (λ s. type_facts domain s object) (sort ∷ sorts) in
    let first : Contains (type_facts domain sort object) (type_fact 0 object) =
    (fact_member (type_facts domain sort object) (type_fact 0 object)).0
    (any_type object (sort ∷ above ++ 0 ∷ []) (or_right _ _ (any_last above))) in
    let there : Contains more (type_fact 0 object) =
    Contains-append_left (type_facts domain sort object) (flat_map (λ s. type_facts domain s object) sorts)
    (type_fact 0 object) first in
    let again = known_already facts more (type_fact 0 object) there in
    ap (λ xs. with_facts (with_facts facts more) (map (λ s. type_fact s object) (0 ∷ xs ++ 0 ∷ []))) (nil_from_length _ none)
    ∙ ap (λ fs. with_fact fs (type_fact 0 object)) again ∙ again

-- one block of facts more
pub block_more : {A : Type 0} (f : A → List Fact) (xs : List A) (i : ℕ) (d : A) (facts new : List Fact)
    → i < length xs → new ≡ with_facts facts (f (get_or xs i d))
    → with_facts new (flat_map f (drop (i + 1) xs)) ≡ with_facts facts (flat_map f (drop i xs))
block_more f xs i d facts new lt grown =
    let left : drop i xs ≡ get_or xs i d ∷ drop (i + 1) xs = drop-cons xs i d lt ∙ (λ j. get_or xs i d ∷ drop (sym (add-one i) j) xs) in
    ap (λ fs. with_facts fs (flat_map f (drop (i + 1) xs))) grown
    ∙ sym (facts_then facts (f (get_or xs i d)) (flat_map f (drop (i + 1) xs))) ∙ ap (λ ys. with_facts facts (flat_map f ys)) (sym left)

-- all blocks, and then one at the end
pub block_end : {A : Type 0} (f : A → List Fact) (xs : List A) (last : A) (facts : List Fact)
    → with_facts (with_facts facts (flat_map f xs)) (f last) ≡ with_facts facts (flat_map f (xs ++ last ∷ []))
block_end f xs last facts =
    sym (facts_then facts (flat_map f xs) (f last))
    ∙ ap (with_facts facts) (ap (λ ys. flat_map f xs ++ ys) (sym (append-nil (f last))) ∙ sym (flat_map-append f xs (last ∷ [])))

pub object_more : (domain : Domain) (xs : List Declared) (i : ℕ) (x : Declared) (facts new : List Fact)
    → i < length xs → x ≡ get_or xs i x
    → new ≡ with_facts facts (flat_map (λ sort. type_facts domain sort i) (x.sorts ++ 0 ∷ []))
    → with_facts new (declared_types domain (i + 1) (drop (i + 1) xs)) ≡ with_facts facts (declared_types domain i (drop i xs))
object_more domain xs i x facts new lt is grown =
    let left : drop i xs ≡ x ∷ drop (i + 1) xs = drop-cons xs i x lt ∙ (λ j. sym is j ∷ drop (sym (add-one i) j) xs) in
    ap (λ fs. with_facts fs (declared_types domain (i + 1) (drop (i + 1) xs))) grown
    ∙ sym (facts_then facts (flat_map (λ sort. type_facts domain sort i) (x.sorts ++ 0 ∷ []))
    (declared_types domain (i + 1) (drop (i + 1) xs)))
    ∙ ap (λ ys. with_facts facts (declared_types domain i ys)) (sym left)

-- ---- names

-- the next name is a new one
pub name_next : {A : Type 0} (f : A → List ℕ) (xs : List A) (i : ℕ) (x : A) → AreDistinct (map f xs)
    → i < length xs → x ≡ get_or xs i x
    → with_name (map f (take i xs)) (f x) ≡ map f (take (i + 1) xs)
name_next f xs i x distinct lt is =
    sym (with_name-new (map f (take i xs)) (f x) absent) ∙ sym (map_push f (take i xs) x)
    ∙ ap (map f) (ap (λ y. take i xs ++ y ∷ []) is ∙ sym (take_more xs i x lt))
  where
    absent : ¬ (Contains (map f (take i xs)) (f x))
    absent m =
        let earlier = place_of (map f (take i xs)) (f x) m in
        let whole : map f (take i xs) ++ map f (drop i xs) ≡ map f xs =
        sym (map-append f (take i xs) (drop i xs)) ∙ ap (map f) (take-append-drop i xs) in
        let there : slice_get (map f xs) earlier.0 ≡ Some (f x) =
        ap (λ ys. slice_get ys earlier.0) (sym whole) ∙ get_append (map f (take i xs)) (map f (drop i xs)) earlier.0 (f x) earlier.1 in
        let here : slice_get (map f xs) i ≡ Some (f x) =
        slice_get-map f xs i ∙ ap (λ o. option_map f o) (slice_get-get_or xs i x lt ∙ ap Some (sym is)) in
        let same : earlier.0 ≡ i = distinct earlier.0 i (f x) there here in
        let below : earlier.0 < length (map f (take i xs)) = slice_get_within (map f (take i xs)) earlier.0 (f x) earlier.1 in
        absurd (omega (arith, length-map (take i xs) f, length-take i xs))

-- ---- roles

pub roles_length : (domain : Domain)
    → domain.roles ≡ map (role_of domain) (numbers_from 0 (length domain.predicates))
    → length domain.roles ≡ length domain.predicates
roles_length domain is =
    ap length is ∙ length-map (numbers_from 0 (length domain.predicates)) (role_of domain)
    ∙ length-numbers_from 0 (length domain.predicates)

pub role_is : (domain : Domain) (pred : ℕ) (d : Role)
    → domain.roles ≡ map (role_of domain) (numbers_from 0 (length domain.predicates))
    → pred < length domain.predicates → get_or domain.roles pred d ≡ role_of domain pred
role_is domain pred d is lt =
    let e : 0 + pred ≡ pred = omega arith in
    ap (λ rs. get_or rs pred d) is ∙ get-map-numbers (role_of domain) 0 (length domain.predicates) pred d lt ∙ ap (role_of domain) e

-- ---- fit facts and values

arity_place : (signatures : List Signature) (place n : ℕ) → has_arity signatures place n ≡ true
    → place < length signatures
arity_place [] place n e = absurd (cc)
arity_place (s ∷ ss) zero n e = omega arith
arity_place (s ∷ ss) (suc place) n e = omega (arith, arity_place ss place n e)

pub objects_in : (names : List (List ℕ)) (objects : List ℕ)
    → list_all (λ o. nat_lt o (length names)) objects ≡ true → All (IsIn names) objects
objects_in names objects all k d lt =
    in_names names _ (ltb-true _ _ (AllPass-from_list_all (λ o. nat_lt o (length names)) objects all k d lt))

pub fact_place : (domain : Domain) (objects : ℕ) (fact : Fact)
    → is_fit_fact domain objects fact ≡ true → fact.name < length domain.predicates
fact_place domain objects fact e =
    let a = is_predicate fact.kind in
    let b = has_arity domain.predicates fact.name (length fact.args) in
    let c = list_all (λ o. nat_lt o objects) fact.args in
    let d = not (is_derived_role (role_of domain fact.name)) in
    arity_place domain.predicates fact.name (length fact.args) (second_so a b (first_so (a && b) c (first_so (a && b && c) d e)))

pub fact_objects : (domain : Domain) (names : List (List ℕ)) (fact : Fact)
    → is_fit_fact domain (length names) fact ≡ true → All (IsIn names) fact.args
fact_objects domain names fact e =
    let a = is_predicate fact.kind in
    let b = has_arity domain.predicates fact.name (length fact.args) in
    let c = list_all (λ o. nat_lt o (length names)) fact.args in
    let d = not (is_derived_role (role_of domain fact.name)) in
    objects_in names fact.args (second_so (a && b) c (first_so (a && b && c) d e))

pub value_objects : (domain : Domain) (names : List (List ℕ)) (v : Valued)
    → is_fit_value domain (length names) v ≡ true → All (IsIn names) v.args
value_objects domain names v e =
    let a = has_arity domain.functions v.func (length v.args) in
    let b = list_all (λ o. nat_lt o (length names)) v.args in
    let c = nat_le v.value 1000000 in
    objects_in names v.args (second_so a b (first_so (a && b) c e))

-- names, facts and values together
pub all_at_first : (task : Task) (known : Known) → known.names ≡ declared_names task
    → known.facts
    ≡ with_facts (with_facts [] (declared_types task.domain 0 task.problem.objects)) (filter (is_static task.domain) task.problem.init)
    → known.values ≡ with_values [] task.problem.values → known ≡ initial_known task
all_at_first task known names facts values =
    let together =
    facts
    ∙ sym (facts_then [] (declared_types task.domain 0 task.problem.objects) (filter (is_static task.domain) task.problem.init)) in
    λ i. record { names = names i; facts = together i; values = values i }
