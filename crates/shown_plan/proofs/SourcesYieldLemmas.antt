-- The generated names of a legal transcript come from its yields.
use Rattle.std.proofs.Common.{◌≡◌, ℕ, ◌≤◌, arith, true, ◌&&◌, ◌==◌, ◌↔◌, inl, inr, List, [], ◌∷◌, ◌++◌, length, map, take, get_or, refl, sym, subst, ap, ◌∙◌, append_assoc, None, Some, Result, Ok, Err, IfOk, Contains, All, eqb-true, eq-eqb}
use Rattle.std.proofs.lemmas.Bool.{and_parts, and_from, both_ways, or_left, or_right}
use Rattle.std.proofs.lemmas.List.{map-append}
use Rattle.std.proofs.lemmas.List.Elements.{All-contains}
use Rattle.std.proofs.lemmas.List.Folds.{list_any-append, list_any_at, Any-from_list_any}
use Rattle.std.proofs.lemmas.Map.Views.{Contains-from_any, list_any-from_Contains, All-from_any}
use Rattle.std.proofs.lemmas.Option.{slice_get-get_or}
use Rattle.std.specs.Cmp.{IsEquivalence, decided}
use Rattle.std.specs.Cmp.Lexicographic.{slice_cmp}
use Rattle.std.specs.List.{list_any, flat_map}
use Rattle.std.specs.Ordering.{nat_cmp}
use Rattle.lemmas.proofs.Ascending.{from_flat_map}
use Rattle.lemmas.specs.Lists.{AreAscending}
use Rattle.task_model.proofs.KnownLemmas.{numbers_decided}
use Rattle.task_model.specs.Fit.{IsFit, is_name}
use Rattle.task_model.specs.Initial.{declared_names}
use Rattle.task_model.specs.Known.{IsIn, same_numbers}
use Rattle.task_model.specs.Streams.{name_at}
use Rattle.task_model.specs.declared.task.GroundAction.{GroundAction}
use Rattle.task_model.specs.declared.task.Task.{Task}
use Rattle.transcript_model.specs.Calls.{call_of_step}
use Rattle.transcript_model.specs.Legal.{IsLegal, MayFollow}
use Rattle.transcript_model.specs.Names.{generated}
use Rattle.transcript_model.specs.Outcomes.{AreOrigins, IsOrigin, IsUsed, has_value, tuple_with}
use Rattle.transcript_model.specs.Transcript.{names_of, objects_in}
use Rattle.transcript_model.specs.declared.entry.Call.{Call}
use Rattle.transcript_model.specs.declared.entry.Entry.{Entry}
use Rattle.transcript_model.specs.declared.entry.Entry.TheVariants as entry
use Rattle.transcript_model.specs.declared.outcome.Origin.{Origin}
use Rattle.shown_plan.proofs.NameListLemmas.{mapped_from, all_pass, with_names_from, in_table}
use Rattle.shown_plan.specs.Shown.{AreNamedSteps}
use Rattle.shown_plan.specs.Sources.{IsBest, IsEven, IsGivenValue, IsSource, is_among, is_generated, stands_in}
use Rattle.shown_plan.specs.declared.source.Source.{Source}

numbers_equivalence : IsEquivalence same_numbers
numbers_equivalence = decided same_numbers numbers_decided

among_from : (names : List (List ℕ)) (name : List ℕ) → is_among names name ≡ true
    → Contains names name
among_from names name e = Contains-from_any (λ x y. (numbers_decided x y).0) name names e

among_is : (names : List (List ℕ)) (name : List ℕ) → Contains names name
    → is_among names name ≡ true
among_is names name c = list_any-from_Contains numbers_equivalence name names c

-- ---- entries

even_entry : (version : ℕ) (task : Task) (before : List Entry) (e : Entry)
    → MayFollow version task before e → IsEven e
even_entry version task before entry.Level h = tt
even_entry version task before (entry.Ask number turn call) h = tt
even_entry version task before (entry.Got number tuples values) h =
    (h.right.some, length h.request.stream.outputs, h.right.count)
even_entry version task before (entry.Value number value) h = tt
even_entry version task before (entry.End number) h = tt
even_entry version task before (entry.Dream uses steps) h = tt
even_entry version task before entry.Nothing h = tt
even_entry version task before entry.Reset h = tt
even_entry version task before (entry.Pick number) h = tt
even_entry version task before (entry.Retire number) h = tt

pub even_entries : (version : ℕ) (task : Task) (entries : List Entry) → IsLegal version task entries
    → All IsEven entries
even_entries version task entries legal k d lt =
    even_entry version task (take k entries) (get_or entries k d) (legal k (get_or entries k d) (slice_get-get_or entries k d lt))

-- ---- generated names

hash_value : (name : List ℕ) → is_generated name ≡ true
    → (value : List ℕ) × (name ≡ generated value)
hash_value [] e = absurd (cc)
hash_value (byte ∷ bytes) e = (bytes, ap (λ b. b ∷ bytes) (eqb-true byte 35 e))

-- no declared object's name begins so
no_hash : (value : List ℕ) → is_name (generated value) ≡ true → ⊥
no_hash value e = cc

given_by : (entries : List Entry) (e : Entry) (name : List ℕ) → Contains entries e
    → Contains (objects_in e) name → IsGivenValue entries name
given_by entries (entry.Got number tuples values) name there c =
    let v = mapped_from generated values name c in
    record {
      value = v.0;
      named = sym v.2;
      number = number;
      there = list_any_at _ entries there.0 (entry.Got number tuples values) there.1
          (rw there.2
          (and_from (number == number) (list_any (same_numbers v.0) values) (eq-eqb number number refl) (among_is values v.0 v.1)));
    }
given_by entries entry.Level name there c = absurd (omega (arith, c.1))
given_by entries (entry.Ask number turn call) name there c = absurd (omega (arith, c.1))
given_by entries (entry.Value number value) name there c = absurd (omega (arith, c.1))
given_by entries (entry.End number) name there c = absurd (omega (arith, c.1))
given_by entries (entry.Dream uses steps) name there c = absurd (omega (arith, c.1))
given_by entries entry.Nothing name there c = absurd (omega (arith, c.1))
given_by entries entry.Reset name there c = absurd (omega (arith, c.1))
given_by entries (entry.Pick number) name there c = absurd (omega (arith, c.1))
given_by entries (entry.Retire number) name there c = absurd (omega (arith, c.1))

given_in : (task : Task) (fit : IsFit task) (entries : List Entry) (name : List ℕ)
    → is_generated name ≡ true
    → Contains (names_of task entries) name → IsGivenValue entries name
given_in task fit entries name hash c =
    elim (with_names_from (declared_names task) (flat_map objects_in entries) name c) [
      | inl old ↦
          let v = hash_value name hash in
          absurd (no_hash v.0
          (subst (λ n. is_name n ≡ true) v.1 (all_pass is_name (declared_names task) name fit.problem.objects.names.each old)))
      | inr new ↦ let e = from_flat_map objects_in entries name new in given_by entries e.0 name e.1 e.2
    ]

pub given_generated : (entries : List Entry) (name : List ℕ) → IsGivenValue entries name
    → is_generated name ≡ true
given_generated entries name g = ap is_generated g.named

-- the name of a generated object is one of some names
pub among_here : (front : List (List ℕ)) (name : List ℕ) (rest all : List (List ℕ)) (value : List ℕ)
    → name ≡ generated value → front ++ name ∷ rest ≡ all → is_among all (generated value) ≡ true
among_here front name rest all value named e =
    subst (λ names. is_among names (generated value) ≡ true) e
    (list_any-append (same_numbers (generated value)) front (name ∷ rest)
    ∙ or_right _ _ (or_left _ _ ((numbers_decided (generated value) name).1 (sym named))))

-- ---- calls

-- a name that stands in a call
pub record Stands (calls : List Call) (name : List ℕ) : Type 0 where
  pub call : Call
  pub there : Contains calls call
  pub here : Contains call.args name

stands : (calls : List Call) (name : List ℕ) → stands_in calls name ≡ true → Stands calls name
stands calls name e =
    let any = Any-from_list_any (λ (c : Call). is_among c.args name) calls e in
    record { call = any.1; there = (any.0, any.2, any.3); here = among_from any.1.args name any.4 }

stands_back : (calls : List Call) (name : List ℕ) (call : Call) → Contains calls call
    → Contains call.args name
    → stands_in calls name ≡ true
stands_back calls name call there here =
    list_any_at (λ (c : Call). is_among c.args name) calls there.0 call there.1
    (subst (λ (c : Call). is_among c.args name ≡ true) (sym there.2) (among_is call.args name here))

pub used_is : (calls : List Call) (name : List ℕ) → ((is_generated name && stands_in calls name) ≡ true) ↔ IsUsed calls name
used_is calls name = (
  λ e.
      let parts = and_parts (is_generated name) (stands_in calls name) e in
      let v = hash_value name parts.0 in
      let s = stands calls name parts.1 in
      (v.0, s.call, v.1, s.there, s.here),
  λ u. and_from (is_generated name) (stands_in calls name) (ap is_generated u.2) (stands_back calls name u.1 u.3 u.4),
)

-- a name that stands in the calls of named steps is in the table
named_in : (task : Task) (names : List (List ℕ)) (steps : List GroundAction) (name : List ℕ)
    → AreNamedSteps task names steps
    → Stands (map (call_of_step task names) steps) name → Contains names name
named_in task names steps name named s =
    let step = mapped_from (call_of_step task names) steps s.call s.there in
    let here : Contains (map (name_at names) step.0.args) name = subst (λ (c : Call). Contains c.args name) (sym step.2) s.here in
    let object = mapped_from (name_at names) step.0.args name here in
    let all : All (IsIn names) step.0.args =
    All-contains (λ (g : GroundAction). All (IsIn names) g.args) steps step.0 named.objects step.1 in
    subst (Contains names) object.2 (in_table names object.0 (All-contains (IsIn names) step.0.args object.0 all object.1))

pub given_names : (task : Task) (fit : IsFit task) (entries : List Entry) (steps : List GroundAction)
    (calls : List Call) (keys : List (List ℕ))
    → AreNamedSteps task (names_of task entries) steps → calls ≡ map (call_of_step task (names_of task entries)) steps
    → ((name : List ℕ) → is_among keys name ≡ (is_generated name && stands_in calls name)) → All (IsGivenValue entries) keys
given_names task fit entries steps calls keys named shown each =
    All-from_any numbers_equivalence (IsGivenValue entries) keys (λ name among.
    let parts = and_parts (is_generated name) (stands_in calls name) (sym (each name) ∙ among) in
    given_in task fit entries name parts.0
    (named_in task (names_of task entries) steps name named (subst (λ cs. Stands cs name) shown (stands calls name parts.1))))

pub each_used : (calls : List Call) (keys : List (List ℕ))
    → ((name : List ℕ) → is_among keys name ≡ (is_generated name && stands_in calls name)) → (name : List ℕ)
    → Contains keys name ↔ IsUsed calls name
each_used calls keys each name = (
  λ c. (used_is calls name).0 (sym (each name) ∙ among_is keys name c),
  λ u. among_from keys name (each name ∙ (used_is calls name).1 u),
)

-- ---- origins

pub has_source : (entries : List Entry) (value : List ℕ) (n : ℕ) → IsBest entries value None
    → has_value entries n value ≡ true → ⊥
has_source entries value n best there = both_ways _ (best.none n) there

pub origin_is : (version : ℕ) (entries : List Entry) (origin : Origin) (value : List ℕ) (source : Source)
    → origin.object ≡ generated value → origin.number ≡ source.number
    → IsSource entries value source → (version ≡ 1 → origin.tuple ≡ 1) → (¬ (version ≡ 1) → origin.tuple ≡ source.tuple)
    → IsOrigin version entries origin
origin_is version entries origin value source named number s one first = record {
  value = value;
  named = named;
  there = subst (λ n. has_value entries n value ≡ true) (sym number) s.there;
  first = λ n h. subst (λ m. m ≤ n) (sym number) (s.first n h);
  one = one;
  tuple = λ other. (s.tuple.0, s.tuple.1, ap (λ n. tuple_with value n s.tuple.0) number ∙ s.tuple.2 ∙ ap Some (sym (first other)));
}

-- one origin more
pub objects_next : {K : Type 0} (shows : K → List ℕ) (from : List Origin) (o : Origin) (key : K) (rest : List K) (all : List (List ℕ))
    → o.object ≡ shows key → map (λ (x : Origin). x.object) from ++ map shows (key ∷ rest) ≡ all
    → map (λ (x : Origin). x.object) (from ++ o ∷ []) ++ map shows rest ≡ all
objects_next shows from o key rest all same e =
    ap (λ xs. xs ++ map shows rest) (map-append (λ (x : Origin). x.object) from (o ∷ []))
    ∙ append_assoc (map (λ (x : Origin). x.object) from) (o.object ∷ []) (map shows rest)
    ∙ ap (λ n. map (λ (x : Origin). x.object) from ++ n ∷ map shows rest) same
    ∙ e

-- the origins of the generated names of calls, if memory suffices
pub are_origins : {E : Type 0} (version : ℕ) (entries : List Entry) (calls : List Call)
    (names : List (List ℕ)) (result : Result (List Origin) E)
    → ((name : List ℕ) → Contains names name ↔ IsUsed calls name)
    → IfOk result (λ from. map (λ (o : Origin). o.object) from ≡ names)
    → IfOk result (λ from. AreAscending (slice_cmp nat_cmp) (map (λ (o : Origin). o.object) from))
    → IfOk result (λ from. (o : Origin) → Contains from o → IsOrigin version entries o)
    → IfOk result (AreOrigins version entries calls)
are_origins version entries calls names (Err e) each objects ascend origins = tt
are_origins version entries calls names (Ok from) each objects ascend origins = record {
  each = λ name. subst (λ (ns : List (List ℕ)). Contains ns name ↔ IsUsed calls name) (sym objects) (each name);
  ascend = ascend;
  origins = origins;
}
