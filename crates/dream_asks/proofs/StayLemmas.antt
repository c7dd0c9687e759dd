-- What a request's answer gave, where its transcript grows.
use Rattle.std.proofs.Common.{◌≡◌, ℕ, zero, suc, ◌+◌, ◌<◌, ◌≤◌, arith, Bool, true, false, not, ◌&&◌, ◌||◌, ◌==◌, Contains, List, [], ◌∷◌, ◌++◌, map, take, drop, length, refl, sym, ap, subst, ◌∙◌, Option, None, Some, slice_get, if◌then◌else◌}
use Rattle.std.proofs.Math.Seq.{take-append-add}
use Rattle.std.proofs.lemmas.List.{append-nil, map-append, take-append-drop}
use Rattle.std.proofs.lemmas.List.Elements.{Contains-append_left, filter_map-append}
use Rattle.std.proofs.lemmas.List.Folds.{list_any-append}
use Rattle.std.specs.Cmp.{first_so}
use Rattle.std.specs.List.{cons_option, filter_map, list_any}
use Rattle.std.proofs.lemmas.Bool.{not-true, false_from_ne_true}
use Rattle.learning.proofs.TuplesLemmas.{places_found}
use Rattle.lemmas.proofs.Ascending.{in_flat_map}
use Rattle.lemmas.proofs.Bools.{left_false, not_both, or_true}
use Rattle.lemmas.proofs.Members.{get_behind, get_take, member_at}
use Rattle.lemmas.specs.Lists.{AreDistinct}
use Rattle.task_model.specs.Fit.{IsFit}
use Rattle.task_model.specs.declared.task.Task.{Task}
use Rattle.transcript_model.proofs.LegalNumberLemmas.{asks_more, number_below, request_number, waiting_of}
use Rattle.transcript_model.proofs.LegalPrefixLemmas.{first_request, legal_take, names_of-distinct, names_of-front}
use Rattle.transcript_model.proofs.NamesLemmas.{places_kept, with_names-has}
use Rattle.transcript_model.specs.Dreaming.{Sent, first_tuple, tuple_in}
use Rattle.transcript_model.specs.Legal.{IsLegal, asks_of, is_answer_to, is_ask_of, is_open}
use Rattle.transcript_model.specs.Names.{generated, places_of}
use Rattle.transcript_model.specs.Transcript.{names_of, objects_in}
use Rattle.task_model.specs.Initial.{declared_names}
use Rattle.transcript_model.specs.declared.entry.Entry.{Entry}
use Rattle.transcript_model.specs.declared.entry.Entry.TheVariants as entry

-- none of these entries answers the request
abbrev pub HasNoAnswer : ℕ → List Entry → Type 0
HasNoAnswer n entries = (k : ℕ) (e : Entry) → slice_get entries k ≡ Some e → is_answer_to n e ≡ false

any_at : (p : Entry → Bool) (xs : List Entry) (k : ℕ) (e : Entry) → slice_get xs k ≡ Some e → p e ≡ true
    → list_any p xs ≡ true
any_at p [] k e at holds = absurd (cc)
any_at p (x ∷ xs) zero e at holds = let same : e ≡ x = cc in ap (λ b. b || list_any p xs) (ap p (sym same) ∙ holds)
any_at p (x ∷ xs) (suc k) e at holds = ap (λ b. p x || b) (any_at p xs k e at holds) ∙ or_true (p x)

-- ---- which entries may answer

module _ (version : ℕ) (task : Task) where
  -- what is answered was asked before
  pub answered_below : (entries : List Entry) (k n : ℕ) (e : Entry) → IsLegal version task entries
      → slice_get entries k ≡ Some e → is_answer_to n e ≡ true → n ≤ asks_of (take k entries)
  answered_below entries k n e legal at answers =
      let waiting = waiting_of version task (take k entries) n e (legal k e at) answers in
      let asked = first_so (list_any (is_ask_of n) (take k entries)) (not (list_any (is_answer_to n) (take k entries))) waiting in
      (number_below version task (take k entries) n (legal_take version task entries k legal) asked).1

  -- a request that comes later isn't answered yet
  pub none_before : (before more : List Entry) (n : ℕ) → IsLegal version task (before ++ more) → asks_of before < n
      → HasNoAnswer n before
  none_before before more n legal later k e at =
      false_from_ne_true (is_answer_to n e) (λ answers.
      let all = get_front before more k e at in
      let low = answered_below (before ++ more) k n e legal all answers in
      let few = asks_front before more k (at_within before k e at) in
      omega (arith, low, few, later))
    where
      get_front : (xs ys : List Entry) (j : ℕ) (x : Entry) → slice_get xs j ≡ Some x → slice_get (xs ++ ys) j ≡ Some x
      get_front [] ys j x there = absurd (cc)
      get_front (y ∷ xs) ys zero x there = there
      get_front (y ∷ xs) ys (suc j) x there = get_front xs ys j x there

      at_within : (xs : List Entry) (j : ℕ) (x : Entry) → slice_get xs j ≡ Some x → j < length xs
      at_within [] j x there = absurd (cc)
      at_within (y ∷ xs) zero x there = omega arith
      at_within (y ∷ xs) (suc j) x there = omega (arith, at_within xs j x there)

      asks_front : (xs ys : List Entry) (j : ℕ) → j < length xs → asks_of (take j (xs ++ ys)) ≤ asks_of xs
      asks_front [] ys j lt = absurd (omega (arith, lt))
      asks_front (x ∷ xs) ys zero lt = omega arith
      asks_front (x ∷ xs) ys (suc j) lt =
          omega (arith, asks_more (x ∷ []) (take j (xs ++ ys)), asks_more (x ∷ []) xs, asks_front xs ys j (omega (arith, lt)))

  -- a request that isn't open is answered no more
  pub none_behind : (before more : List Entry) (n : ℕ) → IsLegal version task (before ++ more) → n ≤ asks_of before
      → is_open before n ≡ false → HasNoAnswer n more
  none_behind before more n legal low closed k e at =
      false_from_ne_true (is_answer_to n e) (λ answers.
      let front : take (length before + k) (before ++ more) ≡ before ++ take k more = take-append-add before more k in
      let waiting = subst (λ es. is_open es n ≡ true) front
      (waiting_of version task (take (length before + k) (before ++ more)) n e
      (legal (length before + k) e (get_behind before more k e at)) answers) in
      let asks = list_any (is_ask_of n) (before ++ take k more) in
      let told = list_any (is_answer_to n) (before ++ take k more) in
      let asked = first_so asks (not told) waiting in
      let untold = not-true told (second_so asks (not told) waiting) in
      by (list_any (is_ask_of n) before) (list_any (is_ask_of n) (take k more)) refl refl
      (sym (list_any-append (is_ask_of n) before (take k more)) ∙ asked)
      (left_false (list_any (is_answer_to n) before) (list_any (is_answer_to n) (take k more))
      (sym (list_any-append (is_answer_to n) before (take k more)) ∙ untold)))
    where
      second_so : (a b : Bool) → (a && b) ≡ true → b ≡ true
      second_so true b both = both
      second_so false b both = absurd (cc)

      get_within : (xs : List Entry) (j m : ℕ) (x : Entry) → slice_get (take m xs) j ≡ Some x → slice_get xs j ≡ Some x
      get_within [] j zero x there = there
      get_within [] j (suc m) x there = there
      get_within (y ∷ xs) j zero x there = absurd (cc)
      get_within (y ∷ xs) zero (suc m) x there = there
      get_within (y ∷ xs) (suc j) (suc m) x there = get_within xs j m x there

      by : (a b : Bool) → list_any (is_ask_of n) before ≡ a → list_any (is_ask_of n) (take k more) ≡ b → (a || b) ≡ true
          → list_any (is_answer_to n) before ≡ false → ⊥
      by true b here there both none =
          not_both (is_open before n) ((λ i. here i && not (none i))) closed
      by false true here there both none =
          let first = first_request (take k more) n there in
          let at_all = get_behind before more first.0 _ (get_within more first.0 k _ first.3) in
          let number = request_number version task (before ++ more) (length before + first.0) n first.1 first.2 legal at_all in
          let front : take (length before + first.0) (before ++ more) ≡ before ++ take first.0 more =
          take-append-add before more first.0 in
          omega (arith, low, number, ap asks_of front, asks_more before (take first.0 more))
      by false false here there both none = absurd (cc)

  -- a request is answered once
  pub one_answer : (entries : List Entry) (j k n : ℕ) (e d : Entry) → IsLegal version task entries
      → slice_get entries j ≡ Some e → slice_get entries k ≡ Some d → is_answer_to n e ≡ true → is_answer_to n d ≡ true
      → j < k → ⊥
  one_answer entries j k n e d legal at later answers again lt =
      let waiting = waiting_of version task (take k entries) n d (legal k d later) again in
      let there = any_at (is_answer_to n) (take k entries) j e (get_take entries j k e at lt) answers in
      by (list_any (is_ask_of n) (take k entries)) (list_any (is_answer_to n) (take k entries)) waiting there
    where
      by : (a b : Bool) → (a && not b) ≡ true → b ≡ true → ⊥
      by true true unanswered told = absurd (cc)
      by false true unanswered told = absurd (cc)
      by a false unanswered told = absurd (cc)

-- ---- what they give

module _ (task : Task) (entries : List Entry) (n width : ℕ) where
  -- another entry gives nothing
  pub other_gives : (e : Entry) → is_answer_to n e ≡ false → tuple_in task entries n width e ≡ None
  other_gives (entry.Got number tuples values) other =
      ap (λ b. if b then places_of (names_of task entries) (map generated (take width values)) else None) other
  other_gives entry.Level other = refl
  other_gives (entry.Ask number turn call) other = refl
  other_gives (entry.Value number value) other = refl
  other_gives (entry.End number) other = refl
  other_gives (entry.Dream uses steps) other = refl
  other_gives entry.Nothing other = refl
  other_gives entry.Reset other = refl
  other_gives (entry.Pick number) other = refl
  other_gives (entry.Retire number) other = refl

  -- where none of them answers the request none gives anything
  pub none_gives : (es : List Entry) → HasNoAnswer n es → filter_map (tuple_in task entries n width) es ≡ []
  none_gives [] none = refl
  none_gives (e ∷ es) none =
      (λ i. cons_option (other_gives e (none 0 e refl) i) (none_gives es (λ k d at. none (suc k) d at) i))

-- ---- what stays

module _ (task : Task) (before more : List Entry) (distinct : AreDistinct (declared_names task)) (n width : ℕ) where
  mapped_front : (values : List (List ℕ)) (name : List ℕ) → Contains (map generated (take width values)) name
      → Contains (map generated values) name
  mapped_front values name m =
      subst (λ vs. Contains (map generated vs) name) (take-append-drop width values)
      (subst (λ ns. Contains ns name) (sym (map-append generated (take width values) (drop width values)))
      (Contains-append_left (map generated (take width values)) (map generated (drop width values)) name m))

  same_gives : (k : ℕ) (e : Entry) → slice_get before k ≡ Some e
      → tuple_in task (before ++ more) n width e ≡ tuple_in task before n width e
  same_gives k (entry.Got number tuples values) at =
      ap (λ found. if n == number then found else None) (kept ∙ sym here.1)
    where
      here : (objects : List ℕ) × (places_of (names_of task before) (map generated (take width values)) ≡ Some objects)
      here =
          places_found (names_of task before) (map generated (take width values)) (names_of-distinct task before distinct)
          (λ name m. with_names-has (declared_names task) _ name
          (in_flat_map objects_in before (entry.Got number tuples values) name
          (member_at before k (entry.Got number tuples values) at) (mapped_front values name m)))

      kept : places_of (names_of task (before ++ more)) (map generated (take width values)) ≡ Some here.0
      kept =
          let front = names_of-front task before more in
          ap (λ ns. places_of ns (map generated (take width values))) front.1
          ∙ places_kept (names_of task before) front.0 (map generated (take width values)) here.0 here.1
  same_gives k entry.Level at = refl
  same_gives k (entry.Ask number turn call) at = refl
  same_gives k (entry.Value number value) at = refl
  same_gives k (entry.End number) at = refl
  same_gives k (entry.Dream uses steps) at = refl
  same_gives k entry.Nothing at = refl
  same_gives k entry.Reset at = refl
  same_gives k (entry.Pick number) at = refl
  same_gives k (entry.Retire number) at = refl

  gives_at : (f g : Entry → Option (List ℕ)) (es : List Entry)
      → ((k : ℕ) (e : Entry) → slice_get es k ≡ Some e → f e ≡ g e) → filter_map f es ≡ filter_map g es
  gives_at f g [] same = refl
  gives_at f g (e ∷ es) same = (λ i. cons_option (same 0 e refl i) (gives_at f g es (λ k d at. same (suc k) d at) i))

  -- what the entries in front give
  pub front_gives : filter_map (tuple_in task (before ++ more) n width) before
      ≡ filter_map (tuple_in task before n width) before
  front_gives = gives_at (tuple_in task (before ++ more) n width) (tuple_in task before n width) before same_gives

pub stays : (version : ℕ) (task : Task) (before more : List Entry) (s : Sent) → IsFit task
    → IsLegal version task (before ++ more) → s.number ≤ asks_of before → is_open before s.number ≡ false
    → first_tuple task (before ++ more) s ≡ first_tuple task before s
stays version task before more s fit legal low closed =
    let n = s.number in
    let width = length s.outputs in
    ap (λ found. slice_get found 0)
    (filter_map-append (tuple_in task (before ++ more) n width) before more
    ∙ (λ i. front_gives task before more fit.problem.objects.names.distinct n width i
    ++ none_gives task (before ++ more) n width more (none_behind version task before more n legal low closed) i)
    ∙ append-nil (filter_map (tuple_in task before n width) before))
