-- What is known after a legal transcript is coherent.
use Rattle.std.proofs.Common.{◌≡◌, ℕ, zero, suc, ◌+◌, ◌*◌, ◌≤◌, arith, true, false, cond, ◌&&◌, ◌==◌, nat_le, nat_lt, List, [], ◌∷◌, ◌++◌, map, filter, take, drop, length, refl, sym, subst, ap, ◌∙◌, Option, Some, None, slice_get, All, Contains, eqb-true, suc-mul, option_map}
use Rattle.std.proofs.lemmas.Bool.{leb-true}
use Rattle.std.proofs.lemmas.List.{length-map, length-take-le, length-drop, length-append, take-append-drop}
use Rattle.std.proofs.lemmas.List.Elements.{All-append, All-contains, Contains-append_left, Contains-append_right, All-nil, All-cons}
use Rattle.std.proofs.lemmas.Map.Views.{list_any-from_Contains}
use Rattle.std.proofs.lemmas.Option.{slice_get_within}
use Rattle.std.specs.Cmp.{first_so, second_so}
use Rattle.std.specs.List.{list_any, list_all, flat_map}
use Rattle.std.specs.Option.{option_and_then, option_or}
use Rattle.task_model.proofs.KnownLemmas.{with_facts-is, in_names, values_equivalence}
use Rattle.task_model.proofs.TruthLemmas.{have_types-length}
use Rattle.lemmas.proofs.Members.{distinct_push, distinct_nil}
use Rattle.lemmas.proofs.Bools.{not_both}
use Rattle.lemmas.proofs.Options.{same_some, and_then_some}
use Rattle.lemmas.proofs.ListTests.{all_one}
use Rattle.task_model.specs.Fit.{IsFit, is_fit_value, is_short, has_arity}
use Rattle.task_model.specs.Initial.{declared_names, declared_types, initial_known, is_static}
use Rattle.task_model.specs.Known.{IsCoherent, IsIn, same_value, with_value, with_values}
use Rattle.lemmas.specs.Lists.{AreDistinct}
use Rattle.task_model.specs.Streams.{worth_by}
use Rattle.task_model.specs.Truth.{have_types}
use Rattle.task_model.specs.declared.domain.Declared.{Declared}
use Rattle.task_model.specs.declared.stream.Instance.{Instance}
use Rattle.task_model.specs.declared.stream.Stream.{Stream}
use Rattle.task_model.specs.declared.stream.Worth.{Worth}
use Rattle.task_model.specs.declared.task.Task.{Task}
use Rattle.task_model.specs.declared.task.Valued.{Valued}
use Rattle.transcript_model.specs.Laws.{IsAsked}
use Rattle.transcript_model.specs.Legal.{IsLegal, IsRightAsk, IsRightGot, IsRightValue}
use Rattle.transcript_model.specs.Names.{generated, place_of, places_of, stream_named, instance_of}
use Rattle.transcript_model.specs.Transcript.{Asked, asked, asked_of, call_of, objects_in, names_of, known_of, certified, told_value, tuples_in, tuple_facts}
use Rattle.transcript_model.specs.declared.entry.Call.{Call}
use Rattle.transcript_model.specs.declared.entry.Entry.{Entry}
use Rattle.transcript_model.specs.declared.entry.Entry.TheVariants as entry
use Rattle.transcript_model.proofs.LegalPrefixLemmas.{names_of-front, names_of-distinct, asked-later, values_named, AreNamed, named_places}
use Rattle.transcript_model.proofs.NamedObjectLemmas.{IsNamed, all_joined, passes_all, with_facts-all, initial_named, fit_stream_at, certified_named}
use Rattle.transcript_model.proofs.NamesLemmas.{map_some, with_names-front, place_at, instance_kept}

-- ---- values

with_values-distinct : (values more : List Valued) → AreDistinct values
    → AreDistinct (with_values values more)
with_values-distinct values [] distinct = distinct
with_values-distinct values (v ∷ more) distinct =
    with_values-distinct (with_value values v) more one
  where
    one : AreDistinct (with_value values v)
    one =
        elim (list_any (same_value v) values) as
        (λ b. list_any (same_value v) values ≡ b → AreDistinct (cond b values (values ++ v ∷ []))) [
          | true ↦ λ _. distinct
          | false ↦ λ absent. distinct_push values v distinct
              (λ m. not_both _ (list_any-from_Contains values_equivalence v values m) absent)
        ] refl

with_values-all : (P : Valued → Type 0) (values more : List Valued) → All P values → All P more
    → All P (with_values values more)
with_values-all P values [] all more = all
with_values-all P values (v ∷ vs) all more =
    with_values-all P (with_value values v) vs
    (one (All-contains P (v ∷ vs) v more (0, omega arith, refl))) (λ k d lt. more (suc k) d (omega arith))
  where
    one : P v → All P (with_value values v)
    one p =
        elim (list_any (same_value v) values) as (λ b. All P (cond b values (values ++ v ∷ []))) [
          | true ↦ all
          | false ↦ All-append P values (v ∷ []) all (all_one P v p)
        ]

-- ---- places

places_in : (names more : List (List ℕ)) (objects : List ℕ) → places_of names more ≡ Some objects
    → All (IsIn names) objects
places_in names [] objects e =
    let none : [] ≡ objects = cc in subst (All (IsIn names)) none (All-nil (IsIn names))
places_in names (name ∷ more) objects e =
    let first = and_then_some (λ object. option_map (λ objects. object ∷ objects) (places_of names more)) (place_of names name) objects e in
    let rest = map_some (λ objects. first.0 ∷ objects) (places_of names more) objects first.2 in
    let here : IsIn names first.0 = in_names names first.0 (slice_get_within names first.0 name (place_at names name first.0 first.1)) in
    subst (All (IsIn names)) rest.2 (All-cons (IsIn names) first.0 rest.0 here (places_in names more rest.0 rest.1))

places_many : (names more : List (List ℕ)) (objects : List ℕ) → places_of names more ≡ Some objects
    → length objects ≡ length more
places_many names [] objects e = let none : [] ≡ objects = cc in ap length (sym none)
places_many names (name ∷ more) objects e =
    let first = and_then_some (λ object. option_map (λ objects. object ∷ objects) (places_of names more)) (place_of names name) objects e in
    let rest = map_some (λ objects. first.0 ∷ objects) (places_of names more) objects first.2 in
    ap length (sym rest.2) ∙ ap suc (places_many names more rest.0 rest.1)

instance_in : (task : Task) (names : List (List ℕ)) (call : Call) (i : Instance)
    → instance_of task names call ≡ Some i
    → All (IsIn names) i.inputs
instance_in task names call i e =
    let stream =
    and_then_some (λ stream. option_map (λ inputs. record { stream = stream; inputs = inputs }) (places_of names call.args))
    (stream_named task call.name) i e in
    let inputs = map_some (λ inputs. record { stream = stream.0; inputs = inputs }) (places_of names call.args) i stream.2 in
    subst (λ (x : Instance). All (IsIn names) x.inputs) inputs.2 (places_in names call.args inputs.0 inputs.1)

-- ---- requests

call_at : (xs : List Entry) (n : ℕ) (call : Call) → call_of xs n ≡ Some call
    → (j : ℕ) × (turn : ℕ) × (slice_get xs j ≡ Some (entry.Ask n turn call))
call_at [] n call e = absurd (cc)
call_at (entry.Ask number turn c ∷ xs) n call e =
    elim (n == number) as (λ b.
    (n == number) ≡ b → option_or (cond b (Some c) None) (call_of xs n) ≡ Some call
    → (j : ℕ) × (t : ℕ) × (slice_get (entry.Ask number turn c ∷ xs) j ≡ Some (entry.Ask n t call))) [
      | true ↦ λ same h. let same_call : c ≡ call = cc in
          (0, turn, λ i. Some (entry.Ask (sym (eqb-true n number same) i) turn (same_call i)))
      | false ↦ λ other h. let r = call_at xs n call h in (suc r.0, r.1, r.2)
    ] refl e
call_at (x ∷ xs) n call e = let r = call_at xs n call e in (suc r.0, r.1, r.2)

asked_streamed : (task : Task) (i : Instance) (a : Asked) → asked_of task i ≡ Some a
    → (slice_get task.streams a.instance.stream ≡ Some a.stream) × (i ≡ a.instance)
asked_streamed task i a e =
    let stream = map_some (λ stream. record { stream = stream; instance = i }) (slice_get task.streams i.stream) a e in (
      subst (λ (x : Asked). slice_get task.streams x.instance.stream ≡ Some x.stream) stream.2 stream.1,
      ap (λ (x : Asked). x.instance) stream.2,
    )

module _ (version : ℕ) (task : Task) (entries : List Entry) (fit : IsFit task) (legal : IsLegal version task entries) where
  pub asked_is : (n : ℕ) (a : Asked) → asked task entries n ≡ Some a
      → IsAsked task (names_of task entries) a
  asked_is n a e =
      let whole = and_then_some (asked_of task) (option_and_then (instance_of task (names_of task entries)) (call_of entries n)) a e in
      let call = and_then_some (instance_of task (names_of task entries)) (call_of entries n) whole.0 whole.1 in
      let at = call_at entries n call.0 call.1 in
      let right : IsRightAsk task (take at.0 entries) n at.1 call.0 = legal at.0 _ at.2 in
      let front = names_of-front task (take at.0 entries) (drop at.0 entries) in
      let names : names_of task entries ≡ names_of task (take at.0 entries) ++ front.0 =
      ap (names_of task) (sym (take-append-drop at.0 entries)) ∙ front.1 in
      let later : instance_of task (names_of task entries) call.0 ≡ Some right.instance =
      subst (λ ns. instance_of task ns call.0 ≡ Some right.instance)
      (sym names) (instance_kept task (names_of task (take at.0 entries)) front.0 call.0 right.instance right.named) in
      let streamed = asked_streamed task whole.0 a whole.2 in
      let same : right.instance ≡ a.instance = same_some _ _ _ later call.2 ∙ streamed.1 in
      let same_stream : right.due.stream ≡ a.stream =
      same_some _ _ _ (subst (λ (x : Instance). slice_get task.streams x.stream ≡ Some right.due.stream) same right.due.named)
      streamed.0 in
      let typed : have_types (known_of task (take at.0 entries)) right.instance.inputs right.due.stream.inputs ≡ true =
      first_so (have_types (known_of task (take at.0 entries)) right.instance.inputs right.due.stream.inputs) _ right.due.reachable in
      record {
        streamed = streamed.0;
        many =
            (λ i. length (sym same i).inputs)
            ∙ have_types-length (known_of task (take at.0 entries)) right.instance.inputs right.due.stream.inputs typed
            ∙ ap (λ (s : Stream). length s.inputs) same_stream;
        named = subst (λ (x : Instance). All (IsIn (names_of task entries)) x.inputs) streamed.1
            (instance_in task (names_of task entries) call.0 whole.0 call.2);
      }

  enough : length task.problem.objects ≤ length (names_of task entries)
  enough =
      let front = with_names-front (declared_names task) (flat_map objects_in entries) in
      omega (
        arith,
        ap length front.1,
        length-append (declared_names task) front.0,
        length-map task.problem.objects (λ (d : Declared). d.name),
      )

  tuple_named : (a : Asked) (tuple : List (List ℕ)) → IsAsked task (names_of task entries) a
      → length tuple ≡ length a.stream.outputs
      → AreNamed (names_of task entries) tuple → All (IsNamed (names_of task entries)) (tuple_facts task (names_of task entries) a tuple)
  tuple_named a tuple is many named =
      let places = named_places (names_of task entries) tuple named in
      let as_many : length places.0 ≡ length a.stream.outputs =
      places_many (names_of task entries) (map generated tuple) places.0 places.1 ∙ length-map tuple generated ∙ many in
      rw places.1 (certified_named (names_of task entries) task a.stream a.instance.inputs places.0 fit
      (fit_stream_at task a.instance.stream a.stream fit is.streamed) enough is.many as_many is.named
      (places_in (names_of task entries) (map generated tuple) places.0 places.1))

  yield_named : (a : Asked) (width tuples : ℕ) (values : List (List ℕ))
      → IsAsked task (names_of task entries) a
      → width ≡ length a.stream.outputs → length values ≡ tuples * width → AreNamed (names_of task entries) values
      → All (IsNamed (names_of task entries)) (flat_map (tuple_facts task (names_of task entries) a) (tuples_in width tuples values))
  yield_named a width zero values is same many named = All-nil (IsNamed (names_of task entries))
  yield_named a width (suc tuples) values is same many named =
      let parts : take width values ++ drop width values ≡ values = take-append-drop width values in
      let whole : length values ≡ tuples * width + width = many ∙ suc-mul tuples width in
      let first : length (take width values) ≡ width = length-take-le width values (omega (arith, whole)) in
      let later : length (drop width values) ≡ tuples * width = omega (arith, length-drop width values, whole) in
      All-append (IsNamed (names_of task entries)) (tuple_facts task (names_of task entries) a (take width values))
      (flat_map (tuple_facts task (names_of task entries) a) (tuples_in width tuples (drop width values)))
      (tuple_named a (take width values) is (first ∙ same)
      (λ v m. named v (subst (λ vs. Contains vs v) parts (Contains-append_left (take width values) (drop width values) v m))))
      (yield_named a width tuples (drop width values) is same later
      (λ v m. named v (subst (λ vs. Contains vs v) parts (Contains-append_right (take width values) (drop width values) v m))))

  certified_each : (k : ℕ) (e : Entry) → slice_get entries k ≡ Some e
      → All (IsNamed (names_of task entries)) (certified task entries e)
  certified_each k (entry.Got n tuples values) at = got (legal k (entry.Got n tuples values) at)
    where
      got : IsRightGot version task (take k entries) n tuples values
          → All (IsNamed (names_of task entries)) (certified task entries (entry.Got n tuples values))
      got right =
          let was = asked-later task entries k n right.request right.of in
          rw was (yield_named right.request (length right.request.stream.outputs) tuples values (asked_is n right.request was) refl
          right.right.count (values_named task entries k n tuples values fit.problem.objects.names.distinct at))
  certified_each k e at = All-nil (IsNamed (names_of task entries))

  told_each : (k : ℕ) (e : Entry) → slice_get entries k ≡ Some e
      → All (λ (v : Valued). v.value ≤ 1000000) (told_value task entries e)
  told_each k (entry.Value n value) at = told (legal k (entry.Value n value) at)
    where
      worth_small : (s : Stream) (inputs : List ℕ) (w : Option Worth) → s.worth ≡ w
          → value ≤ 1000000
          → All (λ (v : Valued). v.value ≤ 1000000) (worth_by s inputs value)
      worth_small s inputs None e few = rw e (All-nil (λ (v : Valued). v.value ≤ 1000000))
      worth_small s inputs (Some w) e few = rw e (all_one (λ (v : Valued). v.value ≤ 1000000) _ few)

      told : IsRightValue task (take k entries) n value
          → All (λ (v : Valued). v.value ≤ 1000000) (told_value task entries (entry.Value n value))
      told right =
          rw (asked-later task entries k n right.request right.of)
          (worth_small right.request.stream right.request.instance.inputs right.request.stream.worth refl right.few)
  told_each k e at = All-nil (λ (v : Valued). v.value ≤ 1000000)

  values_at_first : All (λ (v : Valued). v.value ≤ 1000000) task.problem.values
  values_at_first =
      passes_all (is_fit_value task.domain (length task.problem.objects)) (λ (v : Valued). v.value ≤ 1000000) task.problem.values small
      (second_so (is_short task.problem.values)
      (list_all (is_fit_value task.domain (length task.problem.objects)) task.problem.values) fit.problem.values)
    where
      small : (v : Valued) → is_fit_value task.domain (length task.problem.objects) v ≡ true
          → v.value ≤ 1000000
      small v fits =
          let a = has_arity task.domain.functions v.func (length v.args) in
          let b = list_all (λ o. nat_lt o (length task.problem.objects)) v.args in
          leb-true v.value 1000000 (second_so (a && b) (nat_le v.value 1000000) fits)

  pub coherent : IsCoherent (known_of task entries)
  coherent = record {
    names = names_of-distinct task entries fit.problem.objects.names.distinct;
    facts = (with_facts-is (initial_known task).facts (flat_map (certified task entries) entries)).distinct
        ((with_facts-is [] (declared_types task.domain 0 task.problem.objects ++ filter (is_static task.domain) task.problem.init)).distinct
        distinct_nil);
    values = with_values-distinct (initial_known task).values
        (flat_map (told_value task entries) entries) (with_values-distinct [] task.problem.values distinct_nil);
    objects = with_facts-all (IsNamed (names_of task entries)) (initial_known task).facts (flat_map (certified task entries) entries)
        (initial_named (names_of task entries) task fit enough)
        (all_joined (IsNamed (names_of task entries)) (certified task entries) entries certified_each);
    costs = with_values-all (λ (v : Valued). v.value ≤ 1000000) (initial_known task).values (flat_map (told_value task entries) entries)
        (with_values-all (λ (v : Valued). v.value ≤ 1000000) [] task.problem.values
        (All-nil (λ (v : Valued). v.value ≤ 1000000)) values_at_first)
        (all_joined (λ (v : Valued). v.value ≤ 1000000) (told_value task entries) entries told_each);
  }
