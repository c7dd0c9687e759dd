-- What stays of a legal transcript where entries come behind it.
use Rattle.std.proofs.Common.{◌≡◌, ℕ, zero, suc, arith, true, false, cond, ◌||◌, ◌==◌, List, [], ◌∷◌, ◌++◌, map, take, drop, length, refl, sym, subst, ap, ◌∙◌, None, Some, slice_get, Contains, eqb-true, eq-eqb}
use Rattle.std.proofs.lemmas.Grind.{flat_map-append}
use Rattle.std.proofs.lemmas.List.{take-append-drop, take-append-le}
use Rattle.std.proofs.lemmas.List.Elements.{Contains-append_left, Contains-append_right}
use Rattle.std.proofs.lemmas.Option.{slice_get_within}
use Rattle.std.specs.Cmp.{first_so}
use Rattle.std.specs.List.{list_any, flat_map}
use Rattle.std.specs.Option.{option_and_then, option_or}
use Rattle.lemmas.proofs.Members.{get_append}
use Rattle.task_model.proofs.KnownLemmas.{facts_then, with_names-distinct}
use Rattle.task_model.specs.Initial.{declared_names, initial_known}
use Rattle.task_model.specs.Known.{with_facts, with_value, with_values, with_names}
use Rattle.lemmas.specs.Lists.{AreDistinct}
use Rattle.task_model.specs.declared.task.Task.{Task}
use Rattle.task_model.specs.declared.task.Valued.{Valued}
use Rattle.transcript_model.specs.Laws.{Continues}
use Rattle.transcript_model.specs.Legal.{IsLegal, MayFollow, IsRightAsk, is_ask_of, is_answer_to}
use Rattle.transcript_model.specs.Names.{generated, place_of, places_of, instance_of}
use Rattle.transcript_model.specs.Transcript.{Asked, asked, asked_of, call_in, call_of, objects_in, names_of, certified, told_value, note_of, tuples_in, tuple_facts, yield_facts}
use Rattle.transcript_model.specs.declared.entry.Call.{Call}
use Rattle.transcript_model.specs.declared.entry.Entry.{Entry}
use Rattle.transcript_model.specs.declared.entry.Entry.TheVariants as entry
use Rattle.transcript_model.proofs.NamesLemmas.{with_names-front, with_names-then, with_names-has, place_found, places_kept, instance_kept}
use Rattle.lemmas.proofs.Options.{and_then_some}
use Rattle.lemmas.proofs.Distinct.{in_mapped}

-- ---- lists

pub flat_map-at : {A B : Type 0} (f g : A → List B) (xs : List A)
    → ((k : ℕ) (x : A) → slice_get xs k ≡ Some x → f x ≡ g x)
    → flat_map f xs ≡ flat_map g xs
flat_map-at f g [] same = refl
flat_map-at f g (x ∷ xs) same =
    rw (same 0 x refl, flat_map-at f g xs (λ k y at. same (suc k) y at)) refl

member_joined : {A B : Type 0} (f : A → List B) (xs : List A) (k : ℕ) (x : A) (y : B)
    → slice_get xs k ≡ Some x → Contains (f x) y
    → Contains (flat_map f xs) y
member_joined f [] k x y at m = absurd (cc)
member_joined f (z ∷ zs) zero x y at m =
    let same : x ≡ z = cc in Contains-append_left (f z) (flat_map f zs) y (subst (λ w. Contains (f w) y) same m)
member_joined f (z ∷ zs) (suc k) x y at m =
    Contains-append_right (f z) (flat_map f zs) y (member_joined f zs k x y at m)

-- ---- names

pub names_of-more : (task : Task) (xs ys : List Entry)
    → names_of task (xs ++ ys) ≡ with_names (names_of task xs) (flat_map objects_in ys)
names_of-more task xs ys =
    ap (with_names (declared_names task)) (flat_map-append objects_in xs ys)
    ∙ with_names-then (declared_names task) (flat_map objects_in xs) (flat_map objects_in ys)

pub names_of-front : (task : Task) (xs ys : List Entry)
    → (added : List (List ℕ)) × (names_of task (xs ++ ys) ≡ names_of task xs ++ added)
names_of-front task xs ys =
    let front = with_names-front (names_of task xs) (flat_map objects_in ys) in (front.0, names_of-more task xs ys ∙ front.1)

pub names_of-distinct : (task : Task) (entries : List Entry) → AreDistinct (declared_names task)
    → AreDistinct (names_of task entries)
names_of-distinct task entries distinct =
    with_names-distinct (declared_names task) (flat_map objects_in entries) distinct

-- ---- requests

pub call_of-kept : (xs ys : List Entry) (n : ℕ) (call : Call) → call_of xs n ≡ Some call
    → call_of (xs ++ ys) n ≡ Some call
call_of-kept [] ys n call e = absurd (cc)
call_of-kept (x ∷ xs) ys n call e =
    elim (call_in n x) as (λ o. option_or o (call_of xs n) ≡ Some call → option_or o (call_of (xs ++ ys) n) ≡ Some call) [
      | None ↦ λ h. call_of-kept xs ys n call h
      | Some c ↦ λ h. h
    ] e

pub asked-kept : (task : Task) (xs ys : List Entry) (n : ℕ) (a : Asked) → asked task xs n ≡ Some a
    → asked task (xs ++ ys) n ≡ Some a
asked-kept task xs ys n a e =
    let whole = and_then_some (asked_of task) (option_and_then (instance_of task (names_of task xs)) (call_of xs n)) a e in
    let call = and_then_some (instance_of task (names_of task xs)) (call_of xs n) whole.0 whole.1 in
    let front = names_of-front task xs ys in
    let later : instance_of task (names_of task (xs ++ ys)) call.0 ≡ Some whole.0 =
    subst (λ names. instance_of task names call.0 ≡ Some whole.0)
    (sym front.1) (instance_kept task (names_of task xs) front.0 call.0 whole.0 call.2) in
    rw (call_of-kept xs ys n call.0 call.1, later) whole.2

pub asked-later : (task : Task) (entries : List Entry) (k n : ℕ) (a : Asked)
    → asked task (take k entries) n ≡ Some a
    → asked task entries n ≡ Some a
asked-later task entries k n a e =
    subst (λ all. asked task all n ≡ Some a) (take-append-drop k entries) (asked-kept task (take k entries) (drop k entries) n a e)

-- the first request of a number
pub first_request : (xs : List Entry) (n : ℕ) → list_any (is_ask_of n) xs ≡ true
    → (j : ℕ) × (turn : ℕ) × (call : Call) × (slice_get xs j ≡ Some (entry.Ask n turn call)) × (call_of xs n ≡ Some call)
first_request [] n e = absurd (cc)
first_request (entry.Ask number turn call ∷ xs) n e =
    elim (n == number) as (λ b.
    (n == number) ≡ b → (b || list_any (is_ask_of n) xs) ≡ true
    → (j : ℕ) × (t : ℕ) × (c : Call) × (slice_get (entry.Ask number turn call ∷ xs) j ≡ Some (entry.Ask n t c))
    × (option_or (cond b (Some call) None) (call_of xs n) ≡ Some c)) [
      | true ↦ λ same h. (0, turn, call, ap (λ m. Some (entry.Ask m turn call)) (sym (eqb-true n number same)), refl)
      | false ↦ λ same h. let r = first_request xs n h in (suc r.0, r.1, r.2, r.3, r.4)
    ] refl e
first_request (x ∷ xs) n e = let r = first_request xs n e in (suc r.0, r.1, r.2, r.3, r.4)

-- ---- legal transcripts

module _ (version : ℕ) (task : Task) where
  pub legal_front : (xs ys : List Entry) → IsLegal version task (xs ++ ys) → IsLegal version task xs
  legal_front xs ys legal k e at =
      let below = slice_get_within xs k e at in
      subst (λ before. MayFollow version task before e) (take-append-le k xs ys (omega arith)) (legal k e (get_append xs ys k e at))

  pub legal_take : (entries : List Entry) (k : ℕ) → IsLegal version task entries
      → IsLegal version task (take k entries)
  legal_take entries k legal =
      legal_front (take k entries) (drop k entries) (subst (IsLegal version task) (sym (take-append-drop k entries)) legal)

  -- what a request asks is known
  pub request_known : (entries : List Entry) (n : ℕ) → IsLegal version task entries
      → list_any (is_ask_of n) entries ≡ true
      → (a : Asked) × (asked task entries n ≡ Some a)
  request_known entries n legal there =
      let first = first_request entries n there in
      let right : IsRightAsk task (take first.0 entries) n first.1 first.2 = legal first.0 _ first.3 in
      let front = names_of-front task (take first.0 entries) (drop first.0 entries) in
      let names : names_of task entries ≡ names_of task (take first.0 entries) ++ front.0 =
      ap (names_of task) (sym (take-append-drop first.0 entries)) ∙ front.1 in
      let later : instance_of task (names_of task entries) first.2 ≡ Some right.instance =
      subst (λ ns. instance_of task ns first.2 ≡ Some right.instance)
      (sym names) (instance_kept task (names_of task (take first.0 entries)) front.0 first.2 right.instance right.named) in
      (record { stream = right.due.stream; instance = right.instance }, rw (first.4, later, right.due.named) refl)

  -- the request that an entry answers is known before it
  pub answered_before : (entries : List Entry) (n : ℕ) (e : Entry) → IsLegal version task entries
      → MayFollow version task entries e
      → is_answer_to n e ≡ true → (a : Asked) × (asked task entries n ≡ Some a)
  answered_before entries n (entry.Got number tuples values) legal may same =
      (may.request, ap (asked task entries) (eqb-true n number same) ∙ may.of)
  answered_before entries n (entry.Value number value) legal may same =
      (may.request, ap (asked task entries) (eqb-true n number same) ∙ may.of)
  answered_before entries n (entry.End number) legal may same =
      request_known entries n legal
      (ap (λ m. list_any (is_ask_of m) entries) (eqb-true n number same) ∙ first_so (list_any (is_ask_of number) entries) _ may)
  answered_before entries n e legal may same = absurd (cc)

  pub answered : (entries : List Entry) (k n : ℕ) (e : Entry) → IsLegal version task entries
      → slice_get entries k ≡ Some e
      → is_answer_to n e ≡ true → (a : Asked) × (asked task entries n ≡ Some a)
  answered entries k n e legal at same =
      let r = answered_before (take k entries) n e (legal_take entries k legal) (legal k e at) same in
      (r.0, asked-later task entries k n r.0 r.1)

-- ---- facts and values

pub values_then : (values first second : List Valued)
    → with_values values (first ++ second) ≡ with_values (with_values values first) second
values_then values [] second = refl
values_then values (v ∷ first) second = values_then (with_value values v) first second

-- ---- what answers certify

abbrev pub AreNamed : List (List ℕ) → List (List ℕ) → Type 0
AreNamed names values =
    (value : List ℕ) → Contains values value → (k : ℕ) × (place_of names (generated value) ≡ Some k)

pub named_places : (names values : List (List ℕ)) → AreNamed names values
    → (places : List ℕ) × (places_of names (map generated values) ≡ Some places)
named_places names [] named = ([], refl)
named_places names (value ∷ values) named =
    let first = named value (Contains-append_left (value ∷ []) values value (0, omega arith, refl)) in
    let rest = named_places names values (λ v m. named v (Contains-append_right (value ∷ []) values v m)) in
    (first.0 ∷ rest.0, rw (first.1, rest.1) refl)

tuple_kept : (task : Task) (names added : List (List ℕ)) (a : Asked) (tuple : List (List ℕ))
    → AreNamed names tuple
    → tuple_facts task names a tuple ≡ tuple_facts task (names ++ added) a tuple
tuple_kept task names added a tuple named =
    let places = named_places names tuple named in
    rw (places.1, places_kept names added (map generated tuple) places.0 places.1) refl

yield_kept : (task : Task) (names added : List (List ℕ)) (a : Asked) (width tuples : ℕ) (values : List (List ℕ))
    → AreNamed names values
    → flat_map (tuple_facts task names a) (tuples_in width tuples values)
    ≡ flat_map (tuple_facts task (names ++ added) a) (tuples_in width tuples values)
yield_kept task names added a width zero values named = refl
yield_kept task names added a width (suc tuples) values named =
    let parts : take width values ++ drop width values ≡ values = take-append-drop width values in
    let front =
    tuple_kept task names added a (take width values)
    (λ v m. named v (subst (λ vs. Contains vs v) parts (Contains-append_left (take width values) (drop width values) v m))) in
    let rest = yield_kept task names added a width tuples (drop width values)
    (λ v m. named v (subst (λ vs. Contains vs v) parts (Contains-append_right (take width values) (drop width values) v m))) in
    rw (front, rest) refl

-- the values of a transcript's yields have their objects in its table of names
pub values_named : (task : Task) (entries : List Entry) (k number tuples : ℕ) (values : List (List ℕ))
    → AreDistinct (declared_names task)
    → slice_get entries k ≡ Some (entry.Got number tuples values) → AreNamed (names_of task entries) values
values_named task entries k number tuples values distinct at value m =
    place_found (names_of task entries) (generated value) (names_of-distinct task entries distinct)
    (with_names-has (declared_names task) (flat_map objects_in entries) (generated value)
    (member_joined objects_in entries k (entry.Got number tuples values) (generated value) at (in_mapped generated values value m)))

module _ (version : ℕ) (task : Task) (entries more : List Entry)
    (distinct : AreDistinct (declared_names task)) (legal : IsLegal version task entries) where
  certified_same : (k : ℕ) (e : Entry) → slice_get entries k ≡ Some e
      → certified task (entries ++ more) e ≡ certified task entries e
  certified_same k (entry.Got n tuples values) at =
      let a = answered version task entries k n (entry.Got n tuples values) legal at (eq-eqb n n refl) in
      let front = names_of-front task entries more in
      let kept = yield_kept task (names_of task entries) front.0 a.0
      (length a.0.stream.outputs) tuples values (values_named task entries k n tuples values distinct at) in
      rw (asked-kept task entries more n a.0 a.1, a.1) (ap (λ names. yield_facts task names a.0 tuples values) front.1 ∙ sym kept)
  certified_same k e at = refl

  told_same : (k : ℕ) (e : Entry) → slice_get entries k ≡ Some e
      → told_value task (entries ++ more) e ≡ told_value task entries e
  told_same k (entry.Value n value) at =
      let a = answered version task entries k n (entry.Value n value) legal at (eq-eqb n n refl) in
      rw (asked-kept task entries more n a.0 a.1, a.1) refl
  told_same k e at = refl

  note_same : (k : ℕ) (e : Entry) → slice_get entries k ≡ Some e
      → note_of task (entries ++ more) e ≡ note_of task entries e
  note_same k (entry.Got n tuples values) at =
      let a = answered version task entries k n (entry.Got n tuples values) legal at (eq-eqb n n refl) in
      rw (asked-kept task entries more n a.0 a.1, a.1) refl
  note_same k (entry.Value n value) at =
      let a = answered version task entries k n (entry.Value n value) legal at (eq-eqb n n refl) in
      rw (asked-kept task entries more n a.0 a.1, a.1) refl
  note_same k (entry.End n) at =
      let a = answered version task entries k n (entry.End n) legal at (eq-eqb n n refl) in
      rw (asked-kept task entries more n a.0 a.1, a.1) refl
  note_same k e at = refl

  in_front : {A : Type 0} (f g : Entry → List A)
      → ((k : ℕ) (e : Entry) → slice_get entries k ≡ Some e → f e ≡ g e)
      → flat_map f (entries ++ more) ≡ flat_map g entries ++ flat_map f more
  in_front f g same =
      flat_map-append f entries more
      ∙ ap (λ front. front ++ flat_map f more) (flat_map-at f g entries same)

  pub longer : Continues task entries more
  longer = record {
    names = names_of-more task entries more;
    places = λ k name at.
        let front = names_of-front task entries more in
        subst (λ names. slice_get names k ≡ Some name) (sym front.1) (get_append (names_of task entries) front.0 k name at);
    requests = asked-kept task entries more;
    facts =
        ap (with_facts (initial_known task).facts) (in_front (certified task (entries ++ more)) (certified task entries) certified_same)
        ∙ facts_then (initial_known task).facts
        (flat_map (certified task entries) entries) (flat_map (certified task (entries ++ more)) more);
    values =
        ap (with_values (initial_known task).values) (in_front (told_value task (entries ++ more)) (told_value task entries) told_same)
        ∙ values_then (initial_known task).values
        (flat_map (told_value task entries) entries) (flat_map (told_value task (entries ++ more)) more);
    notes = in_front (note_of task (entries ++ more)) (note_of task entries) note_same;
  }
