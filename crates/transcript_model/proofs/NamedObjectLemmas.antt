-- The objects of facts have names.
use Rattle.std.proofs.Common.{◌≡◌, ℕ, zero, suc, ◌+◌, ◌-◌, ◌<◌, ◌≤◌, arith, Bool, true, false, cond, ◌&&◌, not, nat_lt, nat_le, List, [], ◌∷◌, ◌++◌, map, filter, take, length, replicate, get_or, refl, sym, subst, ap, Option, Some, None, slice_get, All, ltb-true, length-append}
use Rattle.std.proofs.lemmas.List.{length-map, length-take, get_or_append_left}
use Rattle.std.proofs.lemmas.List.Elements.{All-append, All-map, All-filter, All-contains, All-nil}
use Rattle.std.proofs.lemmas.List.Sums.{AllPass-from_list_all}
use Rattle.std.specs.Cmp.{first_so, second_so}
use Rattle.std.specs.List.{list_all, flat_map, slice_index}
use Rattle.lemmas.proofs.Numbers.{below_in_numbers}
use Rattle.lemmas.proofs.ListTests.{all_one}
use Rattle.task_model.proofs.KnownLemmas.{in_names}
use Rattle.task_model.specs.Fit.{IsFit, is_fit_term, is_fit_application, is_fit_pattern, are_fit_patterns, is_fit_stream, is_fit_worth, is_fit_fact, is_predicate, has_arity, is_derived_role, is_short, are_places, are_static_patterns}
use Rattle.task_model.specs.Initial.{type_facts, sorts_with, declared_types, declared_names, is_static, initial_facts}
use Rattle.task_model.specs.Known.{IsIn, type_fact, is_fact, with_fact, with_facts}
use Rattle.lemmas.specs.Lists.{numbers_from}
use Rattle.task_model.specs.Roles.{role_of}
use Rattle.task_model.specs.Streams.{certified_by, output_types, fact_of, worth_by, is_empty}
use Rattle.task_model.specs.Truth.{slots_of, object_of, objects_at}
use Rattle.task_model.specs.declared.condition.Term.{Term}
use Rattle.task_model.specs.declared.condition.Term.TheVariants.{Slot, Object}
use Rattle.task_model.specs.declared.domain.Declared.{Declared}
use Rattle.task_model.specs.declared.domain.Domain.{Domain}
use Rattle.task_model.specs.declared.domain.Pattern.{Pattern}
use Rattle.task_model.specs.declared.fact.Fact.{Fact}
use Rattle.task_model.specs.declared.stream.Stream.{Stream}
use Rattle.task_model.specs.declared.stream.Worth.{Worth}
use Rattle.task_model.specs.declared.task.Task.{Task}
use Rattle.task_model.specs.declared.task.Valued.{Valued}

-- ---- lists

pub all_joined : {A B : Type 0} (P : B → Type 0) (f : A → List B) (xs : List A)
    → ((k : ℕ) (x : A) → slice_get xs k ≡ Some x → All P (f x))
    → All P (flat_map f xs)
all_joined P f [] each = All-nil P
all_joined P f (x ∷ xs) each = All-append P (f x) (flat_map f xs) (each 0 x refl) (all_joined P f xs (λ k y at. each (suc k) y at))

pub passes_all : {A : Type 0} (p : A → Bool) (P : A → Type 0) (xs : List A)
    → ((x : A) → p x ≡ true → P x) → list_all p xs ≡ true → All P xs
passes_all p P xs so e k d lt = so _ (AllPass-from_list_all p xs e k d lt)

-- ---- names

abbrev pub IsNamed : List (List ℕ) → Fact → Type 0
IsNamed names f = All (IsIn names) f.args

type_named : (names : List (List ℕ)) (sort object : ℕ) → IsIn names object
    → IsNamed names (type_fact sort object)
type_named names sort object there = all_one (IsIn names) object there

types_named : (names : List (List ℕ)) (domain : Domain) (sort object : ℕ) → IsIn names object
    → All (IsNamed names) (type_facts domain sort object)
types_named names domain sort object there =
    All-map (IsNamed names) (λ s. type_fact s object)
    (sorts_with domain sort) (λ k d lt. type_named names (get_or (sorts_with domain sort) k d) object there)

-- ---- what is known at first

declared_named : (names : List (List ℕ)) (domain : Domain) (object : ℕ) (ds : List Declared)
    → object + length ds ≤ length names
    → All (IsNamed names) (declared_types domain object ds)
declared_named names domain object [] le = All-nil (IsNamed names)
declared_named names domain object (d ∷ ds) le =
    let here : object < length names = omega arith in
    let rest : (object + 1) + length ds ≤ length names = omega arith in
    All-append (IsNamed names) (flat_map (λ sort. type_facts domain sort object) (d.sorts ++ 0 ∷ []))
    (declared_types domain (object + 1) ds)
    (all_joined (IsNamed names) (λ sort. type_facts domain sort object)
    (d.sorts ++ 0 ∷ []) (λ k sort at. types_named names domain sort object (in_names names object here)))
    (declared_named names domain (object + 1) ds rest)

objects_named : (names : List (List ℕ)) (most : ℕ) (objects : List ℕ) → most ≤ length names
    → list_all (λ o. nat_lt o most) objects ≡ true
    → All (IsIn names) objects
objects_named names most objects le all =
    passes_all (λ o. nat_lt o most) (IsIn names) objects (λ o lt. in_names names o (omega (arith, ltb-true o most lt))) all

fact_named : (names : List (List ℕ)) (domain : Domain) (objects : ℕ) (fact : Fact)
    → objects ≤ length names
    → is_fit_fact domain objects fact ≡ true → IsNamed names fact
fact_named names domain objects fact le e =
    let a = is_predicate fact.kind in
    let b = has_arity domain.predicates fact.name (length fact.args) in
    let c = list_all (λ o. nat_lt o objects) fact.args in
    let d = not (is_derived_role (role_of domain fact.name)) in
    objects_named names objects fact.args le (second_so (a && b) c (first_so (a && b && c) d e))

pub with_facts-all : (P : Fact → Type 0) (facts more : List Fact) → All P facts → All P more
    → All P (with_facts facts more)
with_facts-all P facts [] all more = all
with_facts-all P facts (f ∷ fs) all more =
    with_facts-all P (with_fact facts f) fs (one (All-contains P (f ∷ fs) f more (0, omega arith, refl)))
    (λ k d lt. more (suc k) d (omega arith))
  where
    one : P f → All P (with_fact facts f)
    one p =
        elim (is_fact facts f) as (λ b. All P (cond b facts (facts ++ f ∷ []))) [
          | true ↦ all
          | false ↦ All-append P facts (f ∷ []) all (all_one P f p)
        ]

pub initial_named : (names : List (List ℕ)) (task : Task) → IsFit task
    → length task.problem.objects ≤ length names
    → All (IsNamed names) (initial_facts task)
initial_named names task fit le =
    let listed : length task.problem.objects ≤ length names = le in
    let facts =
    second_so (is_short task.problem.init)
    (list_all (is_fit_fact task.domain (length task.problem.objects)) task.problem.init) fit.problem.init in
    with_facts-all (IsNamed names) []
    (declared_types task.domain 0 task.problem.objects ++ filter (is_static task.domain) task.problem.init) (All-nil (IsNamed names))
    (All-append (IsNamed names) (declared_types task.domain 0 task.problem.objects)
    (filter (is_static task.domain) task.problem.init) (declared_named names task.domain 0 task.problem.objects (omega arith))
    (All-filter (is_static task.domain) (IsNamed names) task.problem.init
    (passes_all (is_fit_fact task.domain (length task.problem.objects))
    (IsNamed names) task.problem.init (λ f e. fact_named names task.domain (length task.problem.objects) f le e) facts)))

-- ---- what a yield certifies

pub term_named : (names : List (List ℕ)) (constants : ℕ) (objects : List ℕ) (t : Term)
    → constants ≤ length names → All (IsIn names) objects
    → is_fit_term constants (numbers_from 0 (length objects)) t ≡ true → IsIn names (object_of (slots_of objects) t)
term_named names constants objects (Slot n) le all e =
    let below : n < length objects = omega (arith, below_in_numbers 0 (length objects) n e) in
    let is : slice_index (slots_of objects) n ≡ get_or objects n 0 =
    get_or_append_left objects (replicate (16 - length objects) 0) 0 n below in
    subst (IsIn names) (sym is) (all n 0 below)
term_named names constants objects (Object o) le all e =
    in_names names o (omega (arith, ltb-true o constants e))

pub terms_named : (names : List (List ℕ)) (constants : ℕ) (objects : List ℕ) (terms : List Term)
    → constants ≤ length names
    → All (IsIn names) objects → list_all (is_fit_term constants (numbers_from 0 (length objects))) terms ≡ true
    → All (IsIn names) (objects_at (slots_of objects) terms)
terms_named names constants objects terms le all e =
    All-map (IsIn names) (object_of (slots_of objects)) terms
    (passes_all (is_fit_term constants (numbers_from 0 (length objects)))
    (λ t. IsIn names (object_of (slots_of objects) t)) terms (λ t fits. term_named names constants objects t le all fits) e)

output_types_named : (names : List (List ℕ)) (domain : Domain) (sorts objects : List ℕ)
    → All (IsIn names) objects
    → All (IsNamed names) (output_types domain sorts objects)
output_types_named names domain [] objects all = All-nil (IsNamed names)
output_types_named names domain (sort ∷ sorts) [] all = All-nil (IsNamed names)
output_types_named names domain (sort ∷ sorts) (o ∷ os) all =
    All-append (IsNamed names) (type_facts domain sort o) (output_types domain sorts os)
    (types_named names domain sort o (All-contains (IsIn names) (o ∷ os) o all (0, omega arith, refl)))
    (output_types_named names domain sorts os (λ k d lt. all (suc k) d (omega arith)))

patterns_named : (names : List (List ℕ)) (domain : Domain) (constants : ℕ) (objects : List ℕ) (patterns : List Pattern)
    → constants ≤ length names → All (IsIn names) objects
    → list_all (is_fit_pattern domain constants (numbers_from 0 (length objects))) patterns ≡ true
    → All (IsNamed names) (map (fact_of (slots_of objects)) patterns)
patterns_named names domain constants objects patterns le all e =
    All-map (IsNamed names) (fact_of (slots_of objects)) patterns
    (passes_all (is_fit_pattern domain constants (numbers_from 0 (length objects))) (λ p. IsNamed names (fact_of (slots_of objects) p))
    patterns (λ p fits. terms_named names constants objects p.args le all
    (second_so (has_arity domain.predicates p.pred (length p.args))
    (list_all (is_fit_term constants (numbers_from 0 (length objects))) p.args) fits)) e)

-- the parts of what makes a stream fit
record StreamParts (domain : Domain) (s : Stream) : Type 0 where
  certified : list_all (is_fit_pattern domain (length domain.constants) (numbers_from 0 (length s.inputs + length s.outputs))) s.certified
      ≡ true
  worth : is_fit_worth domain s ≡ true

stream_parts : (domain : Domain) (s : Stream) → is_fit_stream domain s ≡ true → StreamParts domain s
stream_parts domain s e =
    let a = nat_le (length s.inputs) 8 in
    let b = nat_le (length s.outputs) 8 in
    let c = are_places (length domain.sorts) s.inputs in
    let d = are_places (length domain.sorts) s.outputs in
    let f = are_fit_patterns domain (length domain.constants) (numbers_from 0 (length s.inputs)) s.domain in
    let g = are_static_patterns domain s.domain in
    let h = are_fit_patterns domain (length domain.constants) (numbers_from 0 (length s.inputs + length s.outputs)) s.certified in
    let i = are_static_patterns domain s.certified in
    let w = is_fit_worth domain s in
    let patterns : h ≡ true =
    second_so (a && b && c && d && f && g) h
    (first_so (a && b && c && d && f && g && h) i (first_so (a && b && c && d && f && g && h && i) w e)) in
    record {
      certified =
          second_so (is_short s.certified)
          (list_all (is_fit_pattern domain (length domain.constants) (numbers_from 0 (length s.inputs + length s.outputs))) s.certified)
          patterns;
      worth = second_so (a && b && c && d && f && g && h && i) w e;
    }

pub constants_few : (task : Task) → IsFit task
    → length task.domain.constants ≤ length task.problem.objects
constants_few task fit =
    let same : length (map (λ (d : Declared). d.name) task.domain.constants) ≡ length
    (take (length task.domain.constants) (declared_names task)) =
    ap length fit.problem.constants_first in
    omega (
      arith,
      same,
      length-map task.domain.constants (λ (d : Declared). d.name),
      length-take (length task.domain.constants) (declared_names task),
      length-map task.problem.objects (λ (d : Declared). d.name),
    )

pub fit_stream_at : (task : Task) (k : ℕ) (s : Stream) → IsFit task
    → slice_get task.streams k ≡ Some s → is_fit_stream task.domain s ≡ true
fit_stream_at task k s fit at =
    found task.streams k (second_so (is_short task.streams) (list_all (is_fit_stream task.domain) task.streams) fit.streams.each) at
  where
    found : (streams : List Stream) (k : ℕ) → list_all (is_fit_stream task.domain) streams ≡ true
        → slice_get streams k ≡ Some s
        → is_fit_stream task.domain s ≡ true
    found [] k all at = absurd (cc)
    found (t ∷ ts) zero all at =
        let same : t ≡ s = cc in
        subst (λ x. is_fit_stream task.domain x ≡ true) same
        (first_so (is_fit_stream task.domain t) (list_all (is_fit_stream task.domain) ts) all)
    found (t ∷ ts) (suc k) all at = found ts k (second_so (is_fit_stream task.domain t) (list_all (is_fit_stream task.domain) ts) all) at

-- What a yield of a stream of the task certifies is of objects with names, where its inputs and outputs have names.
pub certified_named : (names : List (List ℕ)) (task : Task) (s : Stream) (inputs outputs : List ℕ)
    → IsFit task
    → is_fit_stream task.domain s ≡ true → length task.problem.objects ≤ length names → length inputs ≡ length s.inputs
    → length outputs ≡ length s.outputs → All (IsIn names) inputs → All (IsIn names) outputs
    → All (IsNamed names) (certified_by task.domain s inputs outputs)
certified_named names task s inputs outputs fit fits le ins outs all_in all_out =
    let parts = stream_parts task.domain s fits in
    let sum : length s.inputs + length s.outputs ≡ length (inputs ++ outputs) = omega (arith, ins, outs, length-append inputs outputs) in
    let slots =
    subst (λ n. list_all (is_fit_pattern task.domain (length task.domain.constants) (numbers_from 0 n)) s.certified ≡ true) sum
    parts.certified in
    All-append (IsNamed names) (output_types task.domain s.outputs outputs)
    (map (fact_of (slots_of (inputs ++ outputs))) s.certified) (output_types_named names task.domain s.outputs outputs all_out)
    (patterns_named names task.domain (length task.domain.constants) (inputs ++ outputs) s.certified
    (omega (arith, constants_few task fit)) (All-append (IsIn names) inputs outputs all_in all_out) slots)

worth_shape : (names : List (List ℕ)) (task : Task) (s : Stream) (inputs : List ℕ) (value : ℕ)
    → length task.domain.constants ≤ length names
    → length inputs ≡ length s.inputs → All (IsIn names) inputs → (w : Option Worth) → s.worth ≡ w → is_fit_worth task.domain s ≡ true
    → All (λ (v : Valued). All (IsIn names) v.args) (worth_by s inputs value)
worth_shape names task s inputs value le ins all None e fits =
    rw e (All-nil (λ (v : Valued). All (IsIn names) v.args))
worth_shape names task s inputs value le ins all (Some w) e fits =
    let filled = numbers_from 0 (length s.inputs) in
    let application = is_fit_application task.domain.functions (length task.domain.constants) filled w.func w.args in
    let shape : (is_empty s.outputs && is_empty s.certified && application) ≡ true = rw e at fits in
    let terms =
    second_so (has_arity task.domain.functions w.func (length w.args))
    (list_all (is_fit_term (length task.domain.constants) filled) w.args)
    (second_so (is_empty s.outputs && is_empty s.certified) application shape) in
    let slots = subst (λ n. list_all (is_fit_term (length task.domain.constants) (numbers_from 0 n)) w.args ≡ true) (sym ins) terms in
    rw e (all_one (λ (v : Valued). All (IsIn names) v.args) _ (terms_named names (length task.domain.constants) inputs w.args le all slots))

-- the arguments of the term that a cost stream gives a value have names
pub worth_named : (names : List (List ℕ)) (task : Task) (s : Stream) (inputs : List ℕ) (value : ℕ)
    → IsFit task
    → is_fit_stream task.domain s ≡ true → length task.problem.objects ≤ length names → length inputs ≡ length s.inputs
    → All (IsIn names) inputs → All (λ (v : Valued). All (IsIn names) v.args) (worth_by s inputs value)
worth_named names task s inputs value fit fits le ins all =
    worth_shape names task s inputs value (omega (arith, constants_few task fit)) ins all s.worth refl
    (stream_parts task.domain s fits).worth
