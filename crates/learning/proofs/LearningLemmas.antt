-- What the entries of a transcript add, one after another, and that it stays little.
use Rattle.std.proofs.Common.{◌≡◌, ℕ, zero, suc, ◌+◌, ◌*◌, ◌-◌, ◌<◌, ◌≤◌, arith, true, cond, List, [], ◌∷◌, take, drop, length, replicate, refl, sym, ap, subst, ◌∙◌, take_all, Option, Some, None, slice_get, get_or, count_by, eq-eqb, eqb-true, mul-add, mul-le-mul}
use Rattle.std.proofs.Math.ListN.{take-append-drop}
use Rattle.std.proofs.lemmas.Bool.{leb-true}
use Rattle.std.proofs.lemmas.List.{length-append, length-map, length-replicate}
use Rattle.std.proofs.lemmas.Option.{get_or_from_slice_get}
use Rattle.std.specs.Cmp.{first_so}
use Rattle.std.specs.List.{flat_map, list_any}
use Rattle.std.specs.Option.{option_map_or}
use Rattle.learning.proofs.FitStreamLemmas.{fit_parts}
use Rattle.task_model.specs.Initial.{declared_names}
use Rattle.task_model.specs.Streams.{Note, Yielded, Ended}
use Rattle.task_model.specs.Known.{Known}
use Rattle.task_model.specs.declared.domain.Declared.{Declared}
use Rattle.task_model.specs.declared.stream.Instance.{Instance}
use Rattle.task_model.specs.declared.stream.Stream.{Stream}
use Rattle.task_model.specs.declared.task.Task.{Task}
use Rattle.transcript_model.proofs.CoherentLemmas.{asked_is}
use Rattle.transcript_model.proofs.LegalPrefixLemmas.{names_of-front, asked-later, legal_take, answered_before}
use Rattle.transcript_model.proofs.NamedObjectLemmas.{constants_few, fit_stream_at}
use Rattle.transcript_model.proofs.LegalNumberLemmas.{asks_more, number_below, waiting_of, next_is_fresh}
use Rattle.transcript_model.proofs.LegalStepLemmas.{answer_adds, request_adds, mark_adds}
use Rattle.transcript_model.specs.Legal.{MayFollow, IsRightAsk, IsRightGot, asks_of, is_ask_of, is_answer_to, is_answer, answered_number, is_mark}
use Rattle.transcript_model.specs.Names.{generated}
use Rattle.transcript_model.specs.Transcript.{Asked, asked, objects_in, names_of, known_of, notes_of, note_of, known_with, notes_with}
use Rattle.transcript_model.specs.declared.entry.Entry.{Entry}
use Rattle.transcript_model.specs.declared.entry.Entry.TheVariants as entry
use Rattle.fact_store.proofs.GrowthLemmas.{front_itself, front_same, front_then, grows_itself, grows_then}
use Rattle.fact_store.specs.Growth.{Grows, IsFrontOf}
use Rattle.learning.proofs.LearningTupleLemmas.{known_with_grows, notes_with_front}
use Rattle.lemmas.proofs.Counts.{count_joined, count_one}
use Rattle.learning.specs.Learning.{CanLearn, MayLearn, IsRoomAfter}
use Rattle.lemmas.proofs.Options.{same_some}
use Rattle.lemmas.proofs.ListTests.{get_there}
use Rattle.lemmas.proofs.Members.{from_take, next_taken}
use Rattle.task_model.proofs.KnownLemmas.{length_with_names}

-- ---- how many names and notes there are

abbrev weight : Entry → ℕ
weight e = cond (is_answer e) 1 0

-- where each answer gives at most so many
few_joined : {A : Type 0} (most : ℕ) (f : Entry → List A) (es : List Entry)
    → ((k : ℕ) (e : Entry) → slice_get es k ≡ Some e → length (f e) ≤ most * weight e)
    → length (flat_map f es) ≤ most * count_by is_answer es
few_joined most f [] each = omega arith
few_joined most f (e ∷ es) each =
    let first : length (f e) ≤ most * weight e = each 0 e refl in
    let rest = few_joined most f es (λ k d at. each (suc k) d at) in
    let both : length (flat_map f (e ∷ es)) ≡ length (f e) + length (flat_map f es) = length-append (f e) (flat_map f es) in
    let counts : count_by is_answer (e ∷ es) ≡ weight e + count_by is_answer es =
    count_joined is_answer (e ∷ []) es ∙ ap (λ n. n + count_by is_answer es) (count_one is_answer e) in
    let times : most * count_by is_answer (e ∷ es) ≡ most * weight e + most * count_by is_answer es =
    ap (λ n. most * n) counts ∙ mul-add most (weight e) (count_by is_answer es) in
    omega (arith, first, rest, both, times)

few_values : (t w n : ℕ) → t ≤ 16 → w ≤ 8 → n ≡ t * w → n ≤ 128
few_values t w n a b e = omega (arith, e, mul-le-mul a b)

-- ---- which request is answered

pub answers_to : (e : Entry) (n : ℕ) → answered_number e ≡ Some n → is_answer_to n e ≡ true
answers_to (entry.Got m tuples values) n is = let same : n ≡ m = cc in eq-eqb n m same
answers_to (entry.Value m value) n is = let same : n ≡ m = cc in eq-eqb n m same
answers_to (entry.End m) n is = let same : n ≡ m = cc in eq-eqb n m same
answers_to e n is = absurd (cc)

module _ (task : Task) (asked_all : List Instance) (entries : List Entry) (can : CanLearn task asked_all entries) where
  small_got : (place : ℕ) (n tuples : ℕ) (values : List (List ℕ))
      → slice_get entries place ≡ Some (entry.Got n tuples values)
      → (tuples ≤ 16) × (length values ≤ 128)
  small_got place n tuples values at =
      let may : IsRightGot can.version task (take place entries) n tuples values = can.legal place (entry.Got n tuples values) at in
      let is = asked_is can.version task (take place entries) can.fit
      (legal_take can.version task entries place can.legal) n may.request may.of in
      let eight : length may.request.stream.outputs ≤ 8 =
      (fit_parts task.domain may.request.stream
      (fit_stream_at task may.request.instance.stream may.request.stream can.fit is.streamed)).outputs in
      (may.right.few, few_values tuples (length may.request.stream.outputs) (length values) may.right.few eight may.right.count)

  few_front : (place : ℕ) → count_by is_answer (take place entries) ≤ 100000
  few_front place =
      omega (
        arith,
        count_joined is_answer (take place entries) (drop place entries),
        ap (count_by is_answer) (take-append-drop place entries),
        can.answered,
        can.counted,
        can.few,
      )

  few_names : (place : ℕ) → length (names_of task (take place entries)) ≤ 21188608
  few_names place =
      let front = take place entries in
      let some = few_joined 128 objects_in front (λ k e at. objects_few k e (from_take entries place k e at).1) in
      let objects : length task.problem.objects ≤ 8388608 = leb-true (length task.problem.objects) 8388608 can.fit.problem.objects.short in
      let declared = length-map task.problem.objects (λ (d : Declared). d.name) in
      omega (arith, some, objects, declared, length_with_names (declared_names task) (flat_map objects_in front), few_front place)
    where
      objects_few : (k : ℕ) (e : Entry) → slice_get entries k ≡ Some e
          → length (objects_in e) ≤ 128 * weight e
      objects_few k (entry.Got n tuples values) at =
          omega (arith, (small_got k n tuples values at).1, length-map values generated)
      objects_few k e at = omega arith

  few_notes : (place : ℕ) → length (notes_of task (take place entries)) ≤ 1600000
  few_notes place =
      let front = take place entries in
      omega
      (arith, few_joined 16 (note_of task front) front (λ k e at. notes_few front k e (from_take entries place k e at).1), few_front place)
    where
      tuples_few : (tuples : ℕ) (o : Option Asked) → tuples ≤ 16
          → length (option_map_or (λ (a : Asked). replicate tuples (Yielded a.instance)) o []) ≤ 16
      tuples_few tuples None few = omega arith
      tuples_few tuples (Some a) few =
          omega (arith, few, length-replicate tuples (Yielded a.instance))

      end_few : (o : Option Asked)
          → length (option_map_or (λ (a : Asked). Ended a.instance ∷ []) o []) ≤ 16
      end_few None = omega arith
      end_few (Some a) = omega arith

      notes_few : (front : List Entry) (k : ℕ) (e : Entry) → slice_get entries k ≡ Some e
          → length (note_of task front e) ≤ 16 * weight e
      notes_few front k (entry.Got n tuples values) at =
          tuples_few tuples (asked task front n) (small_got k n tuples values at).0
      notes_few front k (entry.Value n value) at = end_few (asked task front n)
      notes_few front k (entry.End n) at = end_few (asked task front n)
      notes_few front k e at = omega arith

  constants_named : (place : ℕ)
      → length task.domain.constants ≤ length (names_of task (take place entries))
  constants_named place =
      let front = names_of-front task [] (take place entries) in
      omega (
        arith,
        constants_few task can.fit,
        length-map task.problem.objects (λ (d : Declared). d.name),
        ap length front.1,
        length-append (declared_names task) front.0,
      )

  -- ---- one entry more

  -- The answer stands at this place: it is of this request, and adds what that says.
  pub record IsAnswerAt (place n : ℕ) (e : Entry) : Type 0 where
    pub request : Asked
    pub some : 1 ≤ n
    pub is : slice_get asked_all (n - 1) ≡ Some request.instance
    pub streamed : slice_get task.streams request.instance.stream ≡ Some request.stream
    pub may : MayLearn task (known_of task (take place entries)) (notes_of task (take place entries)) request e
    pub known : known_of task (take (place + 1) entries) ≡ known_with task (known_of task (take place entries)) request e
    pub notes : notes_of task (take (place + 1) entries) ≡ notes_with (notes_of task (take place entries)) request e

  room_after : (place n : ℕ) (e : Entry) (a : Asked) → slice_get entries place ≡ Some e
      → asked task (take place entries) n ≡ Some a
      → is_answer_to n e ≡ true → MayFollow can.version task (take place entries) e
      → IsRoomAfter (known_of task (take place entries)) (notes_of task (take place entries)) a.stream e
  room_after place n (entry.Got m tuples values) a at was answers may =
      let same : m ≡ n = sym (eqb-true n m answers) in
      let one : may.request ≡ a =
      same_some (asked task (take place entries) n) may.request a (ap (asked task (take place entries)) (sym same) ∙ may.of) was in
      let small = small_got place m tuples values at in
      record {
        count = may.right.count ∙ ap (λ (b : Asked). tuples * length b.stream.outputs) one;
        few_names = omega (arith, few_names place, small.1);
        few_notes = omega (arith, few_notes place, small.0);
      }
  room_after place n (entry.Value m value) a at was answers may = may.few
  room_after place n (entry.Ask m turn call) a at was answers may = tt
  room_after place n (entry.End m) a at was answers may = tt
  room_after place n entry.Level a at was answers may = tt
  room_after place n (entry.Dream uses steps) a at was answers may = tt
  room_after place n entry.Nothing a at was answers may = tt
  room_after place n entry.Reset a at was answers may = tt
  room_after place n (entry.Pick k) a at was answers may = tt
  room_after place n (entry.Retire k) a at was answers may = tt

  pub answer_at : (place n : ℕ) (e : Entry) → slice_get entries place ≡ Some e
      → answered_number e ≡ Some n → IsAnswerAt place n e
  answer_at place n e at number =
      let before = take place entries in
      let legal = legal_take can.version task entries place can.legal in
      let may = can.legal place e at in
      let answers = answers_to e n number in
      let request = answered_before can.version task before n e legal may answers in
      let waits = waiting_of can.version task before n e may answers in
      let there = first_so (list_any (is_ask_of n) before) _ waits in
      let below = number_below can.version task before n legal there in
      let all : asks_of entries ≡ asks_of before + asks_of (drop place entries) =
      ap asks_of (sym (take-append-drop place entries)) ∙ asks_more before (drop place entries) in
      let within : n - 1 < length asked_all = omega (arith, below.0, below.1, all, can.counted) in
      let stands = get_there asked_all (n - 1) within in
      let made = can.asks (n - 1) stands.0 stands.1 in
      let back : (n - 1) + 1 ≡ n = omega (arith, below.0) in
      let made_here : asked task entries n ≡ Some (record { stream = made.stream; instance = stands.0 }) =
      ap (asked task entries) (sym back) ∙ made.asks in
      let same : record { stream = made.stream; instance = stands.0 } ≡ request.0 =
      same_some (asked task entries n) (record { stream = made.stream; instance = stands.0 }) request.0 made_here
      (asked-later task entries place n request.0 request.1) in
      let is = asked_is can.version task before can.fit legal n request.0 request.1 in
      let adds = answer_adds can.version task before can.fit.problem.objects.names.distinct legal n request.0 request.1 e answers in
      let next = next_taken entries place e at in
      record {
        request = request.0;
        some = below.0;
        is = stands.1 ∙ ap (λ (a : Asked). Some a.instance) same;
        streamed = is.streamed;
        may = record {
          fit = can.fit;
          streamed = is.streamed;
          many = is.many;
          named = is.named;
          constants = constants_named place;
          room = room_after place n e request.0 at request.1 answers may;
        };
        known = ap (known_of task) next ∙ adds.known;
        notes = ap (notes_of task) next ∙ adds.notes;
      }

  -- an entry that is no answer adds nothing
  pub record AddsNothing (place : ℕ) : Type 0 where
    pub known : known_of task (take (place + 1) entries) ≡ known_of task (take place entries)
    pub notes : notes_of task (take (place + 1) entries) ≡ notes_of task (take place entries)

  mark_at : (place : ℕ) (e : Entry) → slice_get entries place ≡ Some e → is_mark e ≡ true
      → AddsNothing place
  mark_at place e at mark =
      let adds = mark_adds can.version task (take place entries) can.fit.problem.objects.names.distinct
      (legal_take can.version task entries place can.legal) e mark in
      let next = next_taken entries place e at in
      record { known = ap (known_of task) next ∙ adds.same.known; notes = ap (notes_of task) next ∙ adds.same.notes }

  pub other_at : (place : ℕ) (e : Entry) → slice_get entries place ≡ Some e
      → answered_number e ≡ None → AddsNothing place
  other_at place (entry.Ask number turn call) at none =
      let before = take place entries in
      let legal = legal_take can.version task entries place can.legal in
      let right : IsRightAsk task before number turn call = can.legal place (entry.Ask number turn call) at in
      let fresh = ap (λ n. list_any (is_ask_of n) before) right.next ∙ next_is_fresh can.version task before legal in
      let adds = request_adds can.version task before can.fit.problem.objects.names.distinct legal number turn call right.due.stream
      right.instance right fresh right.named right.due.named in
      let next = next_taken entries place (entry.Ask number turn call) at in
      record { known = ap (known_of task) next ∙ adds.same.known; notes = ap (notes_of task) next ∙ adds.same.notes }
  other_at place (entry.Got n tuples values) at none = absurd (cc)
  other_at place (entry.Value n value) at none = absurd (cc)
  other_at place (entry.End n) at none = absurd (cc)
  other_at place entry.Level at none = mark_at place entry.Level at refl
  other_at place (entry.Dream uses steps) at none = mark_at place (entry.Dream uses steps) at refl
  other_at place entry.Nothing at none = mark_at place entry.Nothing at refl
  other_at place entry.Reset at none = mark_at place entry.Reset at refl
  other_at place (entry.Pick n) at none = mark_at place (entry.Pick n) at refl
  other_at place (entry.Retire n) at none = mark_at place (entry.Retire n) at refl

  -- ---- more entries

  -- what is known and noted stands behind more entries
  pub record StandsIn (fewer more : List Entry) : Type 0 where
    pub known : Grows (known_of task fewer) (known_of task more)
    pub notes : IsFrontOf (notes_of task fewer) (notes_of task more)

  stands_next : (place : ℕ) (e : Entry) → slice_get entries place ≡ Some e
      → StandsIn (take place entries) (take (place + 1) entries)
  stands_next place e at = next (answered_number e) refl
    where
      next : (o : Option ℕ) → answered_number e ≡ o
          → StandsIn (take place entries) (take (place + 1) entries)
      next None is =
          let h = other_at place e at is in
          let known = known_of task (take place entries) in
          record {
            known = subst (Grows known) (sym h.known) (grows_itself known);
            notes = front_same (notes_of task (take place entries)) (notes_of task (take (place + 1) entries)) h.notes;
          }
      next (Some n) is =
          let h = answer_at place n e at is in
          let known = known_of task (take place entries) in
          let notes = notes_of task (take place entries) in
          record {
            known = subst (Grows known) (sym h.known) (known_with_grows task known h.request e);
            notes = subst (IsFrontOf notes) (sym h.notes) (notes_with_front notes h.request e);
          }

  pub grown_on : (place : ℕ) (e : Entry) → slice_get entries place ≡ Some e → (first now next : Known)
      → Grows first now → now ≡ known_of task (take place entries)
      → next ≡ known_of task (take (place + 1) entries) → Grows first next
  grown_on place e at first now next more now_is next_is =
      grows_then first now next more
      (subst (Grows now) (sym next_is)
      (subst (λ (k : Known). Grows k (known_of task (take (place + 1) entries))) (sym now_is) (stands_next place e at).known))

  pub noted_on : (place : ℕ) (e : Entry) → slice_get entries place ≡ Some e → (first now next : List Note)
      → IsFrontOf first now → now ≡ notes_of task (take place entries)
      → next ≡ notes_of task (take (place + 1) entries) → IsFrontOf first next
  noted_on place e at first now next more now_is next_is =
      front_then first now next more
      (subst (IsFrontOf now) (sym next_is)
      (subst (λ (ns : List Note). IsFrontOf ns (notes_of task (take (place + 1) entries))) (sym now_is) (stands_next place e at).notes))

  -- behind all of them
  stands_after : (left place : ℕ) → place + left ≡ length entries
      → StandsIn (take place entries) entries
  stands_after zero place is =
      let all : take place entries ≡ entries = take_all place entries (omega (arith, is)) in
      subst (λ es. StandsIn es entries) (sym all)
      (record { known = grows_itself (known_of task entries); notes = front_itself (notes_of task entries) })
  stands_after (suc left) place is =
      let there = get_there entries place (omega (arith, is)) in
      let one = stands_next place there.0 there.1 in
      let rest = stands_after left (place + 1) (omega (arith, is)) in
      record {
        known = grows_then (known_of task (take place entries)) (known_of task (take (place + 1) entries)) (known_of task entries)
            one.known rest.known;
        notes = front_then (notes_of task (take place entries)) (notes_of task (take (place + 1) entries)) (notes_of task entries)
            one.notes rest.notes;
      }

  pub stands_in_all : (place : ℕ) → place ≤ length entries → StandsIn (take place entries) entries
  stands_in_all place within =
      stands_after (length entries - place) place (omega (arith, within))

  -- what was asked, as it is read
  pub request_read : (place n : ℕ) (e : Entry) (h : IsAnswerAt place n e) (i : Instance) (s : Stream)
      → i ≡ get_or asked_all (n - 1) i
      → s ≡ get_or task.streams i.stream s → record { stream = s; instance = i } ≡ h.request
  request_read place n e h i s i_is s_is =
      let instance : i ≡ h.request.instance = i_is ∙ get_or_from_slice_get asked_all (n - 1) h.request.instance i h.is in
      let stream : s ≡ h.request.stream =
      s_is
      ∙ get_or_from_slice_get task.streams i.stream h.request.stream s
      (ap (λ (j : Instance). slice_get task.streams j.stream) instance ∙ h.streamed) in
      λ j. record { stream = stream j; instance = instance j }
