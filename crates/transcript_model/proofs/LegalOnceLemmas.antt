-- No instance is asked twice after equally many tuples.
use Rattle.std.proofs.Common.{◌≡◌, ℕ, zero, suc, ◌+◌, ◌<◌, ◌≤◌, inl, inr, arith, Bool, true, false, cond, not, List, [], ◌∷◌, ◌++◌, take, drop, replicate, refl, sym, subst, ap, ◌∙◌, Some, slice_get, eq-eqb, append_assoc}
use Rattle.std.proofs.lemmas.Bool.{cases_order}
use Rattle.std.proofs.lemmas.List.{take-append-drop, length-take}
use Rattle.std.proofs.lemmas.List.Folds.{list_any-append}
use Rattle.std.proofs.lemmas.List.Sums.{sum_by-append}
use Rattle.std.proofs.lemmas.Option.{slice_get_within}
use Rattle.std.specs.Cmp.{first_so}
use Rattle.std.specs.List.{list_any, flat_map}
use Rattle.std.proofs.lemmas.Map.Keys.{any_passes_from_place}
use Rattle.lemmas.proofs.Bools.{or_true, second_too}
use Rattle.lemmas.proofs.Options.{same_some}
use Rattle.lemmas.proofs.Members.{get_take}
use Rattle.lemmas.proofs.ListTests.{any_found}
use Rattle.task_model.proofs.StreamsLemmas.{instance_itself}
use Rattle.task_model.specs.Initial.{declared_names}
use Rattle.lemmas.specs.Lists.{AreDistinct}
use Rattle.task_model.specs.Streams.{Note, Yielded, Ended, is_yield_of, is_end_of, yields_of, is_finished}
use Rattle.task_model.specs.declared.stream.Instance.{Instance}
use Rattle.task_model.specs.declared.stream.Stream.{Stream}
use Rattle.task_model.specs.declared.task.Task.{Task}
use Rattle.transcript_model.specs.Legal.{IsLegal, MayFollow, IsRightAsk, is_ask_of, is_answer_to, is_open}
use Rattle.transcript_model.specs.Names.{instance_of}
use Rattle.transcript_model.specs.Transcript.{Asked, asked, names_of, notes_of, note_of, notes_with}
use Rattle.transcript_model.specs.declared.entry.Call.{Call}
use Rattle.transcript_model.specs.declared.entry.Entry.{Entry}
use Rattle.transcript_model.specs.declared.entry.Entry.TheVariants as entry
use Rattle.transcript_model.proofs.LegalPrefixLemmas.{first_request, legal_front, legal_take, longer, asked-kept}
use Rattle.transcript_model.proofs.LegalNumberLemmas.{numbers_own, next_is_fresh, waiting_of}
use Rattle.transcript_model.proofs.LegalStepLemmas.{request_adds, answer_adds}

-- ---- lists cut at a member

pub cut_at : {A : Type 0} (xs : List A) (k : ℕ) (x : A) → slice_get xs k ≡ Some x
    → xs ≡ take k xs ++ x ∷ drop (suc k) xs
cut_at [] k x at = absurd (cc)
cut_at (y ∷ ys) zero x at = let same : y ≡ x = cc in ap (λ z. z ∷ ys) same
cut_at (y ∷ ys) (suc k) x at = ap (λ zs. y ∷ zs) (cut_at ys k x at)

take_twice : {A : Type 0} (xs : List A) (j k : ℕ) → j ≤ k → take j (take k xs) ≡ take j xs
take_twice xs zero k le = refl
take_twice xs (suc j) zero le = absurd (omega arith)
take_twice [] (suc j) (suc k) le = refl
take_twice (x ∷ xs) (suc j) (suc k) le =
    let below : j ≤ k = omega arith in ap (λ ys. x ∷ ys) (take_twice xs j k below)

from_taken : {A : Type 0} (xs : List A) (j k : ℕ) (x : A) → slice_get (take k xs) j ≡ Some x
    → slice_get xs j ≡ Some x
from_taken [] j zero x at = absurd (cc)
from_taken [] j (suc k) x at = absurd (cc)
from_taken (y ∷ ys) j zero x at = absurd (cc)
from_taken (y ∷ ys) zero (suc k) x at = at
from_taken (y ∷ ys) (suc j) (suc k) x at = from_taken ys j k x at

joined : {A : Type 0} (xs ys : List A) (x : A) → xs ++ x ∷ ys ≡ (xs ++ x ∷ []) ++ ys
joined xs ys x = sym (append_assoc xs (x ∷ []) ys)

-- ---- notes

pub yields_more : (xs ys : List Note) (i : Instance)
    → yields_of (xs ++ ys) i ≡ yields_of xs i + yields_of ys i
yields_more xs ys i = sum_by-append (λ n. cond (is_yield_of i n) 1 0) xs ys

some_yields : (tuples : ℕ) (i : Instance) → 1 ≤ tuples
    → 1 ≤ yields_of (replicate tuples (Yielded i)) i
some_yields zero i some = absurd (omega arith)
some_yields (suc t) i some =
    let one : yields_of (Yielded i ∷ []) i ≡ 1 = rw (instance_itself i) refl in
    omega (arith, yields_more (Yielded i ∷ []) (replicate t (Yielded i)) i, one)

-- the notes tell the instance more than these did: another tuple, or that it ended
pub record IsTold (before after : List Note) (i : Instance) (told : Bool) : Type 0 where
  pub yield : told ≡ true → yields_of before i < yields_of after i
  pub ended : told ≡ false → list_any (is_end_of i) after ≡ true

module _ (version : ℕ) (task : Task) (distinct : AreDistinct (declared_names task)) where
  -- an answer tells its request's instance
  told_by : (before later : List Entry) (e : Entry) (n : ℕ) (a : Asked)
      → IsLegal version task (before ++ e ∷ later)
      → MayFollow version task before e → is_answer_to n e ≡ true → asked task before n ≡ Some a
      → (told : Bool) × IsTold (notes_of task before) (notes_of task (before ++ e ∷ later)) a.instance told
  told_by before later e n a legal may answers was =
      let one = legal_front version task (before ++ e ∷ []) later (subst (IsLegal version task) (joined before later e) legal) in
      let front = legal_front version task before (e ∷ []) one in
      let here = answer_adds version task before distinct front n a was e answers in
      let whole : notes_of task (before ++ e ∷ later) ≡ notes_with
      (notes_of task before) a e ++ flat_map (note_of task ((before ++ e ∷ []) ++ later)) later =
      ap (notes_of task) (joined before later e) ∙ (longer version task (before ++ e ∷ []) later distinct one).notes
      ∙ ap (λ ns. ns ++ flat_map (note_of task ((before ++ e ∷ []) ++ later)) later) here.notes in
      by_kind e may answers (flat_map (note_of task ((before ++ e ∷ []) ++ later)) later) whole
    where
      ended : (rest : List Note) (after : List Note)
          → after ≡ (notes_of task before ++ Ended a.instance ∷ []) ++ rest
          → list_any (is_end_of a.instance) after ≡ true
      ended rest after is =
          let last : list_any (is_end_of a.instance) (Ended a.instance ∷ []) ≡ true = rw (instance_itself a.instance) refl in
          let before_rest : list_any (is_end_of a.instance) (notes_of task before ++ Ended a.instance ∷ []) ≡ true =
          rw (list_any-append (is_end_of a.instance) (notes_of task before) (Ended a.instance ∷ []), last)
          (or_true (list_any (is_end_of a.instance) (notes_of task before))) in
          rw (is, list_any-append (is_end_of a.instance) (notes_of task before ++ Ended a.instance ∷ []) rest, before_rest) refl

      by_kind : (e : Entry) → MayFollow version task before e → is_answer_to n e ≡ true
          → (rest : List Note)
          → notes_of task (before ++ e ∷ later) ≡ notes_with (notes_of task before) a e ++ rest
          → (told : Bool) × IsTold (notes_of task before) (notes_of task (before ++ e ∷ later)) a.instance told
      by_kind (entry.Got m tuples values) may answers rest whole =
          let more : yields_of (notes_of task (before ++ entry.Got m tuples values ∷ later)) a.instance ≡ yields_of
          (notes_of task before) a.instance + yields_of (replicate tuples (Yielded a.instance)) a.instance + yields_of rest a.instance =
          ap (λ ns. yields_of ns a.instance) whole
          ∙ yields_more (notes_of task before ++ replicate tuples (Yielded a.instance)) rest a.instance
          ∙ ap (λ y. y + yields_of rest a.instance)
          (yields_more (notes_of task before) (replicate tuples (Yielded a.instance)) a.instance) in
          (true, record { yield = λ _. omega (arith, more, some_yields tuples a.instance may.right.some); ended = λ no_end. absurd (cc) })
      by_kind (entry.Value m value) may answers rest whole =
          (false, record { yield = λ t. absurd (cc); ended = λ _. ended rest _ whole })
      by_kind (entry.End m) may answers rest whole =
          (false, record { yield = λ t. absurd (cc); ended = λ _. ended rest _ whole })
      by_kind e may answers rest whole = absurd (cc)

  -- what the request at a place asks, by the names before it
  asked_from : (entries : List Entry) (j n turn : ℕ) (call : Call) (i : Instance)
      → IsLegal version task entries
      → slice_get entries j ≡ Some (entry.Ask n turn call) → instance_of task (names_of task (take j entries)) call ≡ Some i
      → (stream : Stream) × (asked task entries n ≡ Some (record { stream = stream; instance = i }))
  asked_from entries j n turn call i legal at named =
      let early = take j entries in
      let right : IsRightAsk task early n turn call = legal j (entry.Ask n turn call) at in
      let legal_early = legal_take version task entries j legal in
      let same : right.instance ≡ i = same_some _ _ _ right.named named in
      let fresh : list_any (is_ask_of n) early ≡ false =
      ap (λ m. list_any (is_ask_of m) early) right.next ∙ next_is_fresh version task early legal_early in
      let streamed : slice_get task.streams i.stream ≡ Some right.due.stream =
      subst (λ (x : Instance). slice_get task.streams x.stream ≡ Some right.due.stream) same right.due.named in
      let adds = request_adds version task early distinct legal_early n turn call right.due.stream i right fresh named streamed in
      let kept = asked-kept task (early ++ entry.Ask n turn call ∷ []) (drop (suc j) entries) n _ adds.here in
      let whole : (early ++ entry.Ask n turn call ∷ []) ++ drop (suc j) entries ≡ entries =
      sym (cut_at entries j _ at ∙ joined early (drop (suc j) entries) (entry.Ask n turn call)) in
      (right.due.stream, subst (λ es. asked task es n ≡ Some (record { stream = right.due.stream; instance = i })) whole kept)

  -- a transcript has told an instance at least as many tuples as its front
  yields_rise : (entries : List Entry) (j : ℕ) (i : Instance) → IsLegal version task entries
      → yields_of (notes_of task (take j entries)) i ≤ yields_of (notes_of task entries) i
  yields_rise entries j i legal =
      let c = longer version task (take j entries) (drop j entries) distinct (legal_take version task entries j legal) in
      let whole : notes_of task entries ≡ notes_of task (take j entries) ++ flat_map
      (note_of task (take j entries ++ drop j entries)) (drop j entries) =
      ap (notes_of task) (sym (take-append-drop j entries)) ∙ c.notes in
      omega (
        arith,
        ap (λ ns. yields_of ns i) whole,
        yields_more (notes_of task (take j entries)) (flat_map (note_of task (take j entries ++ drop j entries)) (drop j entries)) i,
      )

  -- the answer to a request that isn't open comes behind it, and has told its instance
  told_since : (entries : List Entry) (j n turn : ℕ) (call : Call) (i : Instance)
      → IsLegal version task entries
      → slice_get entries j ≡ Some (entry.Ask n turn call) → instance_of task (names_of task (take j entries)) call ≡ Some i
      → is_open entries n ≡ false → (told : Bool) × IsTold (notes_of task (take j entries)) (notes_of task entries) i told
  told_since entries j n turn call i legal there named closed =
      let asks : list_any (is_ask_of n) entries ≡ true =
      any_passes_from_place (is_ask_of n) entries j (entry.Ask n turn call) there (eq-eqb n n refl) in
      let at = any_found (is_answer_to n) entries
      (second_too (list_any (is_ask_of n) entries) (list_any (is_answer_to n) entries) asks closed) in
      let front = take at.0 entries in
      let may = legal at.0 at.1 at.2 in
      let legal_front = legal_take version task entries at.0 legal in
      let asks_before =
      first_so (list_any (is_ask_of n) front) (not (list_any (is_answer_to n) front)) (waiting_of version task front n at.1 may at.3) in
      let first = first_request front n asks_before in
      let same_place : first.0 ≡ j =
      numbers_own version task entries first.0 j n first.1 turn first.2 call legal (from_taken entries first.0 at.0 _ first.3) there in
      let behind : j < at.0 = omega (arith, slice_get_within front first.0 _ first.3, length-take at.0 entries, same_place) in
      let early : take j front ≡ take j entries = take_twice entries j at.0 (omega arith) in
      let in_front : slice_get front j ≡ Some (entry.Ask n turn call) = get_take entries j at.0 _ there behind in
      let was = asked_from front j n turn call i legal_front in_front (ap (λ es. instance_of task (names_of task es) call) early ∙ named) in
      let whole : front ++ at.1 ∷ drop (suc at.0) entries ≡ entries = sym (cut_at entries at.0 at.1 at.2) in
      let told = told_by front (drop (suc at.0) entries) at.1 n
      (record { stream = was.0; instance = i }) (subst (IsLegal version task) (sym whole) legal) may at.3 was.1 in
      let from_front : IsTold (notes_of task front) (notes_of task entries) i told.0 =
      subst (λ es. IsTold (notes_of task front) (notes_of task es) i told.0) whole told.1 in
      let rise = yields_rise front j i legal_front in
      let rise_early : yields_of (notes_of task (take j entries)) i ≤ yields_of (notes_of task front) i =
      subst (λ es. yields_of (notes_of task es) i ≤ yields_of (notes_of task front) i) early rise in
      (told.0, record { yield = λ t. omega (arith, rise_early, from_front.yield t); ended = from_front.ended })

  -- the request at an earlier place keeps a later one from asking the same
  pub not_again : (entries : List Entry) (j k n m turn : ℕ) (call again : Call) (i : Instance)
      → IsLegal version task entries
      → slice_get entries j ≡ Some (entry.Ask n turn call) → slice_get entries k ≡ Some (entry.Ask m turn again)
      → instance_of task (names_of task (take j entries)) call ≡ Some i → instance_of task (names_of task (take k entries)) again ≡ Some i
      → j < k → ⊥
  not_again entries j k n m turn call again i legal first second named renamed lt =
      let before = take k entries in
      let legal_before = legal_take version task entries k legal in
      let there : slice_get before j ≡ Some (entry.Ask n turn call) = get_take entries j k _ first lt in
      let early : take j before ≡ take j entries = take_twice entries j k (omega arith) in
      let named_there : instance_of task (names_of task (take j before)) call ≡ Some i =
      ap (λ es. instance_of task (names_of task es) call) early ∙ named in
      let asked_first : IsRightAsk task (take j before) n turn call = legal_before j (entry.Ask n turn call) there in
      let asked_again : IsRightAsk task before m turn again = legal k (entry.Ask m turn again) second in
      let same_first : asked_first.instance ≡ i = same_some _ _ _ asked_first.named named_there in
      let same_again : asked_again.instance ≡ i = same_some _ _ _ asked_again.named renamed in
      let was = asked_from before j n turn call i legal_before there named_there in
      let closed : is_open before n ≡ false = asked_again.closed n (record { stream = was.0; instance = i }) was.1 (sym same_again) in
      let told = told_since before j n turn call i legal_before there named_there closed in
      elim told.0 as (λ b. IsTold (notes_of task (take j before)) (notes_of task before) i b → ⊥) [
        | true ↦ λ more.
            let first_turn : turn ≡ yields_of (notes_of task (take j before)) i =
            asked_first.turned ∙ ap (yields_of (notes_of task (take j before))) same_first in
            let second_turn : turn ≡ yields_of (notes_of task before) i =
            asked_again.turned ∙ ap (yields_of (notes_of task before)) same_again in
            absurd (omega (arith, more.yield refl, first_turn, second_turn))
        | false ↦ λ over.
            let unfinished : is_finished asked_again.due.stream (notes_of task before) i ≡ false =
            ap (is_finished asked_again.due.stream (notes_of task before)) (sym same_again) ∙ asked_again.due.unfinished in
            let finished : is_finished asked_again.due.stream (notes_of task before) i ≡ true = rw (over.ended refl) refl in
            absurd (cc)
      ] told.1

  pub not_twice : (entries : List Entry) (j k n m turn : ℕ) (call again : Call) (i : Instance)
      → IsLegal version task entries
      → slice_get entries j ≡ Some (entry.Ask n turn call) → slice_get entries k ≡ Some (entry.Ask m turn again)
      → instance_of task (names_of task (take j entries)) call ≡ Some i → instance_of task (names_of task (take k entries)) again ≡ Some i
      → j ≡ k
  not_twice entries j k n m turn call again i legal first second named renamed =
      elim (cases_order j k) [
        | inl same ↦ same
        | inr apart ↦
            elim apart [
              | inl lt ↦ absurd (not_again entries j k n m turn call again i legal first second named renamed lt)
              | inr lt ↦ absurd (not_again entries k j m n turn again call i legal second first renamed named lt)
            ]
      ]
