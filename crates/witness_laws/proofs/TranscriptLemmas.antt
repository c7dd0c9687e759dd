-- The transcripts of the first worked task that agree with its table: the cup is asked for twice, and nothing else.
use Rattle.std.proofs.Common.{◌≡◌, ℕ, zero, suc, ◌+◌, ◌==◌, ◌≤◌, Bool, true, false, ◌&&◌, ◌||◌, not, List, [], ◌∷◌, ◌++◌, map, refl, sym, ap, subst, ◌∙◌, arith, Option, None, Some, slice_get, Contains, codes, eqb-true, eq-eqb, append_assoc, append-nil}
use Rattle.std.proofs.lemmas.Bool.{false≢true}
use Rattle.std.proofs.lemmas.List.Elements.{Contains-append_left, Contains-append_right}
use Rattle.std.proofs.lemmas.Option.{same_Some}
use Rattle.std.specs.List.{list_any, position}
use Rattle.std.specs.Option.{option_map}
use Rattle.lemmas.proofs.Ascending.{contains_here, contains_none}
use Rattle.lemmas.proofs.Bools.{from_or_false, not_both}
use Rattle.lemmas.proofs.Distinct.{distinct_cons}
use Rattle.lemmas.proofs.Members.{distinct_nil}
use Rattle.lemmas.proofs.Options.{and_then_some, none_at}
use Rattle.lemmas.specs.Lists.{AreDistinct}
use Rattle.task_model.proofs.KnownLemmas.{numbers_decided}
use Rattle.task_model.specs.Initial.{declared_names, initial_known}
use Rattle.task_model.specs.Known.{Known, atom_fact, is_fact, same_numbers, type_fact}
use Rattle.task_model.specs.Plans.{IsReached, MoreThan}
use Rattle.task_model.specs.Roles.{role_of}
use Rattle.task_model.specs.Streams.{Ended, Note, Yielded, is_finished, is_reachable, yields_of}
use Rattle.task_model.specs.Truth.{has_type}
use Rattle.task_model.specs.declared.stream.Instance.{Instance}
use Rattle.task_model.specs.declared.stream.Stream.{Stream}
use Rattle.transcript_model.proofs.CallNameLemmas.{places_exact}
use Rattle.transcript_model.proofs.LegalNumberLemmas.{next_is_fresh}
use Rattle.transcript_model.proofs.LegalPrefixLemmas.{legal_front, names_of-distinct}
use Rattle.transcript_model.proofs.LegalLemmas.{grows}
use Rattle.transcript_model.proofs.LegalStepLemmas.{answer_adds, mark_adds, request_adds}
use Rattle.transcript_model.specs.Laws.{AddsMark}
use Rattle.transcript_model.specs.Legal.{HasNoneOpen, IsLegal, IsRightAsk, MayFollow, asks_of, is_ask_of, is_answer_to, is_mark, is_open}
use Rattle.transcript_model.specs.Names.{instance_of, places_of, stream_named}
use Rattle.transcript_model.specs.Tables.{AnswersAgree, IsBounded}
use Rattle.transcript_model.specs.Transcript.{Asked, asked, known_of, known_with, names_of, notes_of, notes_with}
use Rattle.transcript_model.specs.declared.entry.Call.{Call}
use Rattle.transcript_model.specs.declared.entry.Entry.{Entry}
use Rattle.transcript_model.specs.declared.entry.Entry.TheVariants as entry
use Rattle.witness_laws.specs.Fetch.{fetch, fetch_answers, grip, grip_cup}
use Rattle.witness_laws.proofs.StateLemmas.{OnlyCup, both_true, few_states}

abbrev pub cup : Instance
cup = record { stream = 0; inputs = 0 ∷ [] }

abbrev cup_asked : Asked
cup_asked = record { stream = grip; instance = cup }

abbrev got_left : Entry
got_left = entry.Got 1 1 (codes "left" ∷ [])

-- what is known at first, and after the answer
abbrev pub at_first : Known
at_first = initial_known fetch

abbrev gripped : Known
gripped = known_with fetch at_first cup_asked got_left

-- ---- facts

-- the cup is the only item
abbrev pub OnlyItem : Known → Type 0
OnlyItem known = (o : ℕ) → is_fact known.facts (atom_fact 0 (o ∷ [])) ≡ true → o ≡ 0

first_facts : at_first.facts ≡ type_fact 0 0 ∷ atom_fact 0 (0 ∷ []) ∷ []
unfolding role_of
first_facts = refl

gripped_facts : gripped.facts
    ≡ type_fact 0 0 ∷ atom_fact 0 (0 ∷ []) ∷ type_fact 0 1 ∷ atom_fact 2 (0 ∷ 1 ∷ []) ∷ []
unfolding role_of
gripped_facts = refl

same_one : (o : ℕ) → ((o == 0) && true) ≡ true → o ≡ 0
same_one o e = eqb-true o 0 (both_true (o == 0) true e).0

same_two : (x g : ℕ) → ((x == 0) && ((g == 1) && true)) ≡ true → (x ≡ 0) × (g ≡ 1)
same_two x g e =
    let parts = both_true (x == 0) ((g == 1) && true) e in
    (eqb-true x 0 parts.0, eqb-true g 1 (both_true (g == 1) true parts.1).0)

pub first_item : OnlyItem at_first
first_item o e =
    same_one o (from_or_false ((o == 0) && true) (sym (ap (λ fs. is_fact fs (atom_fact 0 (o ∷ []))) first_facts) ∙ e))

gripped_item : OnlyItem gripped
gripped_item o e =
    same_one o (from_or_false ((o == 0) && true) (sym (ap (λ fs. is_fact fs (atom_fact 0 (o ∷ []))) gripped_facts) ∙ e))

first_cup : OnlyCup at_first
first_cup x g e =
    absurd (false≢true (sym (ap (λ fs. is_fact fs (atom_fact 2 (x ∷ g ∷ []))) first_facts) ∙ e))

gripped_cup : OnlyCup gripped
gripped_cup x g e =
    same_two x g (from_or_false ((x == 0) && ((g == 1) && true))
    (sym (ap (λ fs. is_fact fs (atom_fact 2 (x ∷ g ∷ []))) gripped_facts) ∙ e))

-- ---- what is due

stream_is : (place : ℕ) (s : Stream) → slice_get (grip ∷ []) place ≡ Some s → s ≡ grip
stream_is zero s e = sym (same_Some grip s e)
stream_is (suc place) s e = absurd (none_at place s e)

module _ (known : Known) (only : OnlyItem known) where
  inputs_are : (inputs : List ℕ) → is_reachable grip known (record { stream = 0; inputs = inputs }) ≡ true
      → inputs ≡ 0 ∷ []
  inputs_are [] e = absurd (false≢true e)
  inputs_are (o ∷ []) e =
      let item = is_fact known.facts (atom_fact 0 (o ∷ [])) in
      let there = (both_true (has_type known o 0 && true) (item && true) e).1 in
      ap (λ n. n ∷ []) (only o (both_true item true there).0)
  inputs_are (o ∷ p ∷ more) e =
      let facts = is_fact known.facts (atom_fact 0 (o ∷ [])) in
      absurd (false≢true (both_true (has_type known o 0) false (both_true (has_type known o 0 && false) (facts && true) e).0).1)

  pub due_is : (place : ℕ) (inputs : List ℕ) (s : Stream) → slice_get (grip ∷ []) place ≡ Some s
      → is_reachable s known (record { stream = place; inputs = inputs }) ≡ true
      → record { stream = place; inputs = inputs } ≡ cup
  due_is zero inputs s at e =
      let right = subst (λ t. is_reachable t known (record { stream = 0; inputs = inputs }) ≡ true) (stream_is 0 s at) e in
      ap (λ xs. record { stream = 0; inputs = xs }) (inputs_are inputs right)
  due_is (suc place) inputs s at e = absurd (none_at place s at)

-- ---- what is asked

map_some : {A B : Type 0} (f : A → B) (o : Option A) (y : B) → option_map f o ≡ Some y
    → (x : A) × (o ≡ Some x) × (f x ≡ y)
map_some f None y e = absurd (cc)
map_some f (Some x) y e = (x, refl, same_Some (f x) y e)

one_named : (b : Bool) (n : ℕ) → position (λ (s : Stream). b) (grip ∷ []) ≡ Some n → b ≡ true
one_named true n e = refl
one_named false n e = absurd (cc)

one_arg : (args : List (List ℕ)) → Some (codes "cup") ∷ [] ≡ map Some args → args ≡ codes "cup" ∷ []
one_arg [] e = absurd (cc)
one_arg (a ∷ []) e =
    ap (λ x. x ∷ []) (sym (same_Some (codes "cup") a (same_Some (Some (codes "cup")) (Some a) (ap (λ xs. slice_get xs 0) e))))
one_arg (a ∷ b ∷ args) e = absurd (let f = ap (λ xs. slice_get xs 1) e in cc)

named_is : (names tail : List (List ℕ)) (call : Call) → AreDistinct names → names ≡ codes "cup" ∷ tail
    → instance_of fetch names call ≡ Some cup → call ≡ grip_cup
named_is names tail call distinct front e =
    let stream = and_then_some (λ s. option_map (λ inputs. record { stream = s; inputs = inputs }) (places_of names call.args))
    (stream_named fetch call.name) cup e in
    let inputs = map_some (λ inputs. record { stream = stream.0; inputs = inputs }) (places_of names call.args) cup stream.2 in
    let places : places_of names call.args ≡ Some (0 ∷ []) = inputs.1 ∙ ap Some (ap (λ (i : Instance). i.inputs) inputs.2) in
    let shown = (places_exact names call.args (0 ∷ []) distinct).0 places in
    let first : slice_get names 0 ≡ Some (codes "cup") = ap (λ ns. slice_get ns 0) front in
    let args : call.args ≡ codes "cup" ∷ [] = one_arg call.args (ap (λ o. o ∷ []) (sym first) ∙ shown) in
    let name : call.name ≡ codes "grip" =
    (numbers_decided call.name (codes "grip")).0 (one_named (same_numbers call.name (codes "grip")) stream.0 stream.1) in
    λ i. record { name = name i; args = args i }

-- ---- how a transcript stands

-- No request is open.
record Rests (before : List Entry) (known : Known) (notes : List Note) (asks : ℕ) : Type 0 where
  known_is : known_of fetch before ≡ known
  notes_is : notes_of fetch before ≡ notes
  asks_is : asks_of before ≡ asks
  closed : HasNoneOpen before

-- The last request is open: it is one for the cup.
record Waits (before : List Entry) (known : Known) (notes : List Note) (number turn : ℕ) : Type 0 where
  known_is : known_of fetch before ≡ known
  notes_is : notes_of fetch before ≡ notes
  asks_is : asks_of before ≡ number
  waiting : (n : ℕ) → is_open before n ≡ (n == number)
  asked_is : asked fetch before number ≡ Some cup_asked
  has : Contains before (entry.Ask number turn grip_cup)

abbrev yielded : List Note
yielded = Yielded cup ∷ []

abbrev all_told : List Note
all_told = Yielded cup ∷ Ended cup ∷ []

data Stage (before : List Entry) : Type 0 where
  fresh : Rests before at_first [] 0 → Stage before
  first : Waits before at_first [] 1 0 → Stage before
  one : Rests before gripped yielded 1 → Stage before
  second : Waits before gripped yielded 2 1 → Stage before
  over : Rests before gripped all_told 2 → Stage before

and_not : (b : Bool) → (b && not b) ≡ false
and_not true = refl
and_not false = refl

declared_once : AreDistinct (declared_names fetch)
declared_once = distinct_cons (codes "cup") [] distinct_nil (contains_none (codes "cup"))

module _ (before : List Entry) (legal : IsLegal 1 fetch before) where
  -- ---- marks

  rests_marked : (e : Entry) (known : Known) (notes : List Note) (asks : ℕ) → AddsMark fetch before (before ++ e ∷ [])
      → Rests before known notes asks → Rests (before ++ e ∷ []) known notes asks
  rests_marked e known notes asks m r = record {
    known_is = m.same.known ∙ r.known_is;
    notes_is = m.same.notes ∙ r.notes_is;
    asks_is = m.asks ∙ r.asks_is;
    closed = λ n. m.waiting n ∙ r.closed n;
  }

  waits_marked : (e : Entry) (known : Known) (notes : List Note) (number turn : ℕ)
      → AddsMark fetch before (before ++ e ∷ [])
      → Waits before known notes number turn → Waits (before ++ e ∷ []) known notes number turn
  waits_marked e known notes number turn m w = record {
    known_is = m.same.known ∙ w.known_is;
    notes_is = m.same.notes ∙ w.notes_is;
    asks_is = m.asks ∙ w.asks_is;
    waiting = λ n. m.waiting n ∙ w.waiting n;
    asked_is = m.requests number ∙ w.asked_is;
    has = Contains-append_left before (e ∷ []) (entry.Ask number turn grip_cup) w.has;
  }

  marked : (e : Entry) → is_mark e ≡ true → Stage before → Stage (before ++ e ∷ [])
  marked e mark (fresh r) = fresh (rests_marked e _ _ _ (mark_adds 1 fetch before declared_once legal e mark) r)
  marked e mark (first w) = first (waits_marked e _ _ _ _ (mark_adds 1 fetch before declared_once legal e mark) w)
  marked e mark (one r) = one (rests_marked e _ _ _ (mark_adds 1 fetch before declared_once legal e mark) r)
  marked e mark (second w) = second (waits_marked e _ _ _ _ (mark_adds 1 fetch before declared_once legal e mark) w)
  marked e mark (over r) = over (rests_marked e _ _ _ (mark_adds 1 fetch before declared_once legal e mark) r)

  -- ---- requests

  -- what is asked is the cup
  asks_cup : (known : Known) → OnlyItem known → known_of fetch before ≡ known → (number turn : ℕ) (call : Call)
      → (right : IsRightAsk fetch before number turn call) → right.instance ≡ cup
  asks_cup known only is number turn call right =
      let i = right.instance in
      due_is known only i.stream i.inputs right.due.stream right.due.named
      (subst (λ k. is_reachable right.due.stream k i ≡ true) is right.due.reachable)

  requested : (known : Known) (notes : List Note) (asks number turn : ℕ) → Rests before known notes asks
      → number ≡ asks + 1 → IsRightAsk fetch before number turn grip_cup
      → instance_of fetch (names_of fetch before) grip_cup ≡ Some cup
      → Waits (before ++ entry.Ask number turn grip_cup ∷ []) known notes number turn
  requested known notes asks number turn r n_is right named =
      let e = entry.Ask number turn grip_cup in
      let new = ap (λ n. list_any (is_ask_of n) before) right.next ∙ next_is_fresh 1 fetch before legal in
      let adds = request_adds 1 fetch before declared_once legal number turn grip_cup grip cup right new named refl in
      record {
        known_is = adds.same.known ∙ r.known_is;
        notes_is = adds.same.notes ∙ r.notes_is;
        asks_is = adds.asks ∙ ap (λ n. n + 1) r.asks_is ∙ sym n_is;
        waiting = λ n. adds.waiting n ∙ ap (λ b. b || (n == number)) (r.closed n);
        asked_is = adds.here;
        has = Contains-append_right before (e ∷ []) e (contains_here e []);
      }

  -- a request that comes is the next one for the cup
  next_ask : (known : Known) (notes : List Note) (tail : List (List ℕ)) (asks n t : ℕ) → OnlyItem known
      → known.names ≡ codes "cup" ∷ tail → n ≡ asks + 1 → yields_of notes cup ≡ t → Rests before known notes asks
      → (number turn : ℕ) (call : Call) → IsRightAsk fetch before number turn call
      → (entry.Ask n t grip_cup ≡ entry.Ask number turn call)
      × Waits (before ++ entry.Ask n t grip_cup ∷ []) known notes n t
  next_ask known notes tail asks n t only front n_is t_is r number turn call right =
      let inst : right.instance ≡ cup = asks_cup known only r.known_is number turn call right in
      let names : names_of fetch before ≡ codes "cup" ∷ tail = ap (λ (k : Known). k.names) r.known_is ∙ front in
      let named : instance_of fetch (names_of fetch before) call ≡ Some cup = right.named ∙ ap Some inst in
      let call_is : call ≡ grip_cup =
      named_is (names_of fetch before) tail call (names_of-distinct fetch before declared_once) names named in
      let number_is : number ≡ n = right.next ∙ ap (λ m. m + 1) r.asks_is ∙ sym n_is in
      let turn_is : turn ≡ t =
      right.turned ∙ ap (λ ns. yields_of ns right.instance) r.notes_is ∙ ap (yields_of notes) inst ∙ t_is in
      let same : entry.Ask number turn call ≡ entry.Ask n t grip_cup =
      λ i. entry.Ask (number_is i) (turn_is i) (call_is i) in (
        sym same,
        requested known notes asks n t r n_is (subst (λ e. MayFollow 1 fetch before e) same right)
            (subst (λ c. instance_of fetch (names_of fetch before) c ≡ Some cup) call_is named),
      )

  -- while one is open no other comes
  no_second : (known : Known) (notes : List Note) (n t : ℕ) → OnlyItem known → Waits before known notes n t
      → (number turn : ℕ) (call : Call) → IsRightAsk fetch before number turn call → ⊥
  no_second known notes n t only w number turn call right =
      let inst : right.instance ≡ cup = asks_cup known only w.known_is number turn call right in
      not_both (is_open before n) (w.waiting n ∙ eq-eqb n n refl) (right.closed n cup_asked w.asked_is (sym inst))

  -- behind the end none comes
  none_behind : Rests before gripped all_told 2 → (number turn : ℕ) (call : Call)
      → IsRightAsk fetch before number turn call → ⊥
  none_behind r number turn call right =
      let inst : right.instance ≡ cup = asks_cup gripped gripped_item r.known_is number turn call right in
      let stream : right.due.stream ≡ grip = stream_is right.instance.stream right.due.stream right.due.named in
      let left = subst (λ ns. is_finished right.due.stream ns right.instance ≡ false) r.notes_is right.due.unfinished in
      let mine = subst (λ i. is_finished right.due.stream all_told i ≡ false) inst left in
      let unfinished : is_finished grip all_told cup ≡ false =
      subst (λ s. is_finished s all_told cup ≡ false) stream mine in
      false≢true (sym unfinished)

  asking : (number turn : ℕ) (call : Call) → IsRightAsk fetch before number turn call → Stage before
      → Stage (before ++ entry.Ask number turn call ∷ [])
  asking number turn call right (fresh r) =
      let it = next_ask at_first [] [] 0 1 0 first_item refl refl refl r number turn call right in
      subst (λ e. Stage (before ++ e ∷ [])) it.0 (first it.1)
  asking number turn call right (first w) = absurd (no_second at_first [] 1 0 first_item w number turn call right)
  asking number turn call right (one r) =
      let it = next_ask gripped yielded (codes "#left" ∷ []) 1 2 1 gripped_item refl refl refl r number turn call right in
      subst (λ e. Stage (before ++ e ∷ [])) it.0 (second it.1)
  asking number turn call right (second w) = absurd (no_second gripped yielded 2 1 gripped_item w number turn call right)
  asking number turn call right (over r) = absurd (none_behind r number turn call right)

  -- ---- answers

  answered : (known : Known) (notes : List Note) (number turn : ℕ) (e : Entry) → Waits before known notes number turn
      → is_answer_to number e ≡ true
      → Rests (before ++ e ∷ []) (known_with fetch known cup_asked e) (notes_with notes cup_asked e) number
  answered known notes number turn e w is =
      let adds = answer_adds 1 fetch before declared_once legal number cup_asked w.asked_is e is in
      record {
        known_is = adds.known ∙ ap (λ k. known_with fetch k cup_asked e) w.known_is;
        notes_is = adds.notes ∙ ap (λ ns. notes_with ns cup_asked e) w.notes_is;
        asks_is = adds.asks ∙ w.asks_is;
        closed = λ n. adds.waiting n ∙ ap (λ b. b && not (n == number)) (w.waiting n) ∙ and_not (n == number);
      }

  -- the answer is the table's
  told : (known : Known) (notes : List Note) (n turn : ℕ) (due e : Entry) → Waits before known notes n turn
      → AnswersAgree fetch_answers (before ++ e ∷ [])
      → ((due ∷ [] ≡ e ∷ []) → Stage (before ++ e ∷ []))
      → ((x : Entry) → is_answer_to n x ≡ true → Contains (before ++ e ∷ []) x → due ∷ [] ≡ x ∷ [])
      → (m : ℕ) → is_answer_to m e ≡ true → is_open before m ≡ true → Stage (before ++ e ∷ [])
  told known notes n turn due e w agree then by m is waits =
      let same : m ≡ n = eqb-true m n (sym (w.waiting m) ∙ waits) in
      then (by e (subst (λ k. is_answer_to k e ≡ true) same is) (Contains-append_right before (e ∷ []) e (contains_here e [])))

  heads : (x y : Entry) → x ∷ [] ≡ y ∷ [] → x ≡ y
  heads x y e = same_Some x y (ap (λ xs. slice_get xs 0) e)

  answering : (m : ℕ) (e : Entry) → is_answer_to m e ≡ true → is_open before m ≡ true
      → AnswersAgree fetch_answers (before ++ e ∷ []) → Stage before → Stage (before ++ e ∷ [])
  answering m e is waits agree (fresh r) = absurd (not_both (is_open before m) waits (r.closed m))
  answering m e is waits agree (first w) =
      told at_first [] 1 0 got_left e w agree
      (λ same. subst (λ x. Stage (before ++ x ∷ [])) (heads got_left e same) (one (answered at_first [] 1 0 got_left w refl)))
      (λ x answers there. agree 1 0 grip_cup x (Contains-append_left before (e ∷ []) (entry.Ask 1 0 grip_cup) w.has) there answers)
      m is waits
  answering m e is waits agree (one r) = absurd (not_both (is_open before m) waits (r.closed m))
  answering m e is waits agree (second w) =
      told gripped yielded 2 1 (entry.End 2) e w agree
      (λ same. subst (λ x. Stage (before ++ x ∷ [])) (heads (entry.End 2) e same)
      (over (answered gripped yielded 2 1 (entry.End 2) w refl)))
      (λ x answers there. agree 2 1 grip_cup x (Contains-append_left before (e ∷ []) (entry.Ask 2 1 grip_cup) w.has) there answers)
      m is waits
  answering m e is waits agree (over r) = absurd (not_both (is_open before m) waits (r.closed m))

  -- ---- one entry more

  step : (e : Entry) → MayFollow 1 fetch before e → AnswersAgree fetch_answers (before ++ e ∷ []) → Stage before
      → Stage (before ++ e ∷ [])
  step (entry.Ask number turn call) may agree stage = asking number turn call may stage
  step (entry.Got number tuples values) may agree stage =
      answering number (entry.Got number tuples values) (eq-eqb number number refl) may.waiting agree stage
  step (entry.Value number value) may agree stage =
      answering number (entry.Value number value) (eq-eqb number number refl) may.waiting agree stage
  step (entry.End number) may agree stage =
      answering number (entry.End number) (eq-eqb number number refl) may agree stage
  step e may agree stage = marked e refl stage

agree_front : (xs ys : List Entry) → AnswersAgree fetch_answers (xs ++ ys) → AnswersAgree fetch_answers xs
agree_front xs ys agree n turn call e asked there =
    agree n turn call e (Contains-append_left xs ys (entry.Ask n turn call) asked) (Contains-append_left xs ys e there)

walk : (before rest : List Entry) → IsLegal 1 fetch (before ++ rest) → AnswersAgree fetch_answers (before ++ rest)
    → Stage before → Stage (before ++ rest)
walk before [] legal agree stage = subst Stage (sym (append-nil before)) stage
walk before (e ∷ rest) legal agree stage =
    let same : before ++ e ∷ [] ++ rest ≡ before ++ e ∷ rest = append_assoc before (e ∷ []) rest in
    let whole = subst (IsLegal 1 fetch) (sym same) legal in
    let agrees = subst (AnswersAgree fetch_answers) (sym same) agree in
    let next = legal_front 1 fetch (before ++ e ∷ []) rest whole in
    let front = legal_front 1 fetch before (e ∷ []) next in
    subst Stage same
    (walk (before ++ e ∷ []) rest whole agrees
    (step before front e ((grows 1 fetch before).last e next) (agree_front (before ++ e ∷ []) rest agrees) stage))

starts : Stage []
starts = fresh (record { known_is = refl; notes_is = refl; asks_is = refl; closed = λ n. refl })

abbrev Bounded : List Entry → Type 0
Bounded entries = (asks_of entries ≤ 2) × ¬ (MoreThan 8 (IsReached fetch (known_of fetch entries)))

few_known : (entries : List Entry) (known : Known) → OnlyCup known → known_of fetch entries ≡ known
    → ¬ (MoreThan 8 (IsReached fetch (known_of fetch entries)))
few_known entries known only is =
    subst (λ k. ¬ (MoreThan 8 (IsReached fetch k))) (sym is) (few_states known only)

by_stage : (entries : List Entry) → Stage entries → Bounded entries
by_stage entries (fresh r) = (omega (arith, r.asks_is), few_known entries at_first first_cup r.known_is)
by_stage entries (first w) = (omega (arith, w.asks_is), few_known entries at_first first_cup w.known_is)
by_stage entries (one r) = (omega (arith, r.asks_is), few_known entries gripped gripped_cup r.known_is)
by_stage entries (second w) = (omega (arith, w.asks_is), few_known entries gripped gripped_cup w.known_is)
by_stage entries (over r) = (omega (arith, r.asks_is), few_known entries gripped gripped_cup r.known_is)

pub bounded : IsBounded 1 fetch fetch_answers 2 8
bounded entries agrees = by_stage entries (walk [] entries agrees.legal agrees.by starts)
