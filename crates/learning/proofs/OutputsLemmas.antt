-- Names and facts, put behind others one after another.
use Rattle.std.proofs.Common.{◌≡◌, ℕ, zero, suc, ◌+◌, ◌<◌, ◌≤◌, arith, true, false, cond, List, [], ◌∷◌, ◌++◌, map, drop, length, get_or, refl, sym, ap, subst, ◌∙◌, Some, slice_get, All}
use Rattle.std.proofs.lemmas.List.{map-append, length-append, drop_more}
use Rattle.std.specs.List.{list_any}
use Rattle.fact_store.proofs.GrowthLemmas.{front_then}
use Rattle.fact_store.proofs.StoreLemmas.{in_more}
use Rattle.fact_store.specs.Growth.{IsBetween, IsFrontOf}
use Rattle.task_model.specs.Initial.{type_facts}
use Rattle.task_model.specs.Known.{IsIn, same_numbers, with_fact, with_facts, with_name, with_names}
use Rattle.task_model.specs.Streams.{output_types}
use Rattle.task_model.specs.declared.domain.Domain.{Domain}
use Rattle.task_model.specs.declared.fact.Fact.{Fact}
use Rattle.learning.specs.Outputs.{AreNamed}
use Rattle.transcript_model.proofs.NamesLemmas.{with_name-front, with_names-front}
use Rattle.transcript_model.specs.Names.{generated}
use Rattle.lemmas.proofs.Members.{get_append}
use Rattle.task_model.proofs.KnownLemmas.{facts_then}

-- ---- lists

-- ---- names

-- a name keeps its place
pub place_kept : (names : List (List ℕ)) (name : List ℕ) (k : ℕ) (x : List ℕ)
    → slice_get names k ≡ Some x
    → slice_get (with_name names name) k ≡ Some x
place_kept names name k x e =
    elim (list_any (same_numbers name) names) as (λ b. slice_get (cond b names (names ++ name ∷ [])) k ≡ Some x) [
      | true ↦ e
      | false ↦ get_append names (name ∷ []) k x e
    ]

in_kept : (names : List (List ℕ)) (name : List ℕ) (object : ℕ) → IsIn names object
    → IsIn (with_name names name) object
in_kept names name object h =
    elim (list_any (same_numbers name) names) as (λ b. IsIn (cond b names (names ++ name ∷ [])) object) [
      | true ↦ h
      | false ↦ in_more names (name ∷ []) object h
    ]

pub in_names_kept : (names more : List (List ℕ)) (object : ℕ) → IsIn names object
    → IsIn (with_names names more) object
in_names_kept names [] object h = h
in_names_kept names (name ∷ more) object h =
    in_names_kept (with_name names name) more object (in_kept names name object h)

pub all_in_names_kept : (names more : List (List ℕ)) (objects : List ℕ) → All (IsIn names) objects
    → All (IsIn (with_names names more)) objects
all_in_names_kept names more objects all k d lt = in_names_kept names more _ (all k d lt)

at_least : (names : List (List ℕ)) (name : List ℕ) → length names ≤ length (with_name names name)
at_least names name =
    elim (list_any (same_numbers name) names) as (λ b. length names ≤ length (cond b names (names ++ name ∷ []))) [
      | true ↦ omega arith
      | false ↦ omega (arith, length-append names (name ∷ []))
    ]

pub names_grow : (names more : List (List ℕ)) → length names ≤ length (with_names names more)
names_grow names [] = omega arith
names_grow names (name ∷ more) =
    omega (arith, at_least names name, names_grow (with_name names name) more)

pub names_more : (names : List (List ℕ)) (values : List (List ℕ)) (i : ℕ) (value : List ℕ)
    → i < length values
    → value ≡ get_or values i value
    → with_names (with_name names (generated value)) (map generated (drop (i + 1) values))
    ≡ with_names names (map generated (drop i values))
names_more names values i value lt is =
    ap (λ vs. with_names names (map generated vs)) (sym (drop_more values i value lt ∙ ap (λ v. v ∷ drop (i + 1) values) (sym is)))

-- the names so far, where all from before are there and with those that are left all are
pub names_between : (first now left after : List (List ℕ)) → IsFrontOf first now
    → with_names now left ≡ after → IsBetween first now after
names_between first now left after grown is = (grown, subst (IsFrontOf now) is (with_names-front now left))

-- and one name more
pub one_named : (first now new after values : List (List ℕ)) (i : ℕ) (value : List ℕ) → i < length values
    → value ≡ get_or values i value → new ≡ with_name now (generated value) → IsFrontOf first now
    → with_names now (map generated (drop i values)) ≡ after → IsBetween first new after
one_named first now new after values i value lt at one grown is =
    names_between first new (map generated (drop (i + 1) values)) after
    (front_then first now new grown (subst (IsFrontOf now) (sym one) (with_name-front now (generated value))))
    (ap (λ ns. with_names ns (map generated (drop (i + 1) values))) one ∙ names_more now values i value lt at ∙ is)

-- ---- objects with their values' names

pub named_kept : (names : List (List ℕ)) (name : List ℕ) (objects : List ℕ) (values : List (List ℕ))
    → AreNamed names objects values
    → AreNamed (with_name names name) objects values
named_kept names name [] [] e = refl
named_kept names name [] (v ∷ vs) e = absurd (cc)
named_kept names name (o ∷ os) [] e = absurd (cc)
named_kept names name (o ∷ os) (v ∷ vs) e =
    let here : slice_get names o ≡ Some (generated v) = cc in
    let rest : map (slice_get names) os ≡ map (λ value. Some (generated value)) vs = cc in
    λ j. place_kept names name o (generated v) here j ∷ named_kept names name os vs rest j

pub named_push : (names : List (List ℕ)) (objects : List ℕ) (values : List (List ℕ)) (object : ℕ) (value : List ℕ)
    → AreNamed names objects values → slice_get names object ≡ Some (generated value)
    → AreNamed names (objects ++ object ∷ []) (values ++ value ∷ [])
named_push names objects values object value all one =
    map-append (slice_get names) objects (object ∷ []) ∙ (λ j. all j ++ one j ∷ [])
    ∙ sym (map-append (λ v. Some (generated v)) values (value ∷ []))

pub named_in : (names : List (List ℕ)) (objects : List ℕ) (values : List (List ℕ))
    → AreNamed names objects values
    → All (IsIn names) objects
named_in names [] values e k d lt = absurd (omega arith)
named_in names (o ∷ os) [] e k d lt = absurd (cc)
named_in names (o ∷ os) (v ∷ vs) e zero d lt =
    let here : slice_get names o ≡ Some (generated v) = cc in
    rw here refl
named_in names (o ∷ os) (v ∷ vs) e (suc k) d lt =
    let rest : map (slice_get names) os ≡ map (λ value. Some (generated value)) vs = cc in
    named_in names os vs rest k d (omega arith)

pub named_long : (names : List (List ℕ)) (objects : List ℕ) (values : List (List ℕ))
    → AreNamed names objects values
    → length objects ≡ length values
named_long names [] [] e = refl
named_long names [] (v ∷ vs) e = absurd (cc)
named_long names (o ∷ os) [] e = absurd (cc)
named_long names (o ∷ os) (v ∷ vs) e =
    let rest : map (slice_get names) os ≡ map (λ value. Some (generated value)) vs = cc in
    ap suc (named_long names os vs rest)

-- ---- facts

pub types_more : (domain : Domain) (sorts objects : List ℕ) (i object : ℕ) (facts new : List Fact)
    → i < length sorts
    → length objects ≡ length sorts → object ≡ get_or objects i object
    → new ≡ with_facts facts (type_facts domain (get_or sorts i 0) object)
    → with_facts new (output_types domain (drop (i + 1) sorts) (drop (i + 1) objects))
    ≡ with_facts facts (output_types domain (drop i sorts) (drop i objects))
types_more domain sorts objects i object facts new lt long o grown =
    let below : i < length objects = omega arith in
    let first : drop i sorts ≡ get_or sorts i 0 ∷ drop (i + 1) sorts = drop_more sorts i 0 lt in
    let second : drop i objects ≡ object ∷ drop (i + 1) objects =
    drop_more objects i object below ∙ ap (λ x. x ∷ drop (i + 1) objects) (sym o) in
    ap (λ fs. with_facts fs (output_types domain (drop (i + 1) sorts) (drop (i + 1) objects))) grown
    ∙ sym (facts_then facts (type_facts domain (get_or sorts i 0) object) (output_types domain (drop (i + 1) sorts) (drop (i + 1) objects)))
    ∙ (λ j. with_facts facts (output_types domain (sym first j) (sym second j)))

pub atoms_more : {A : Type 0} (f : A → Fact) (xs : List A) (i : ℕ) (x : A) (facts new : List Fact)
    → i < length xs → x ≡ get_or xs i x
    → new ≡ with_fact facts (f x) → with_facts new (map f (drop (i + 1) xs)) ≡ with_facts facts (map f (drop i xs))
atoms_more f xs i x facts new lt is grown =
    ap (λ fs. with_facts fs (map f (drop (i + 1) xs))) grown
    ∙ ap (λ ys. with_facts facts (map f ys)) (sym (drop_more xs i x lt ∙ ap (λ y. y ∷ drop (i + 1) xs) (sym is)))
