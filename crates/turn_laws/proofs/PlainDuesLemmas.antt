-- Behind a transcript with nothing open, distinct instances that are due may all be asked.
use Rattle.std.proofs.Common.{◌≡◌, ℕ, ◌+◌, Bool, true, false, ◌==◌, ◌||◌, Contains, List, [], ◌∷◌, ◌++◌, Some, refl, sym, ap, subst, ◌∙◌, arith, append_assoc, inl, inr, eqb-true, eq-eqb}
use Rattle.std.proofs.lemmas.List.{append-nil}
use Rattle.std.specs.List.{list_any}
use Rattle.lemmas.proofs.Ascending.{contains_cases, contains_here, contains_later, contains_none}
use Rattle.lemmas.proofs.Bools.{or_false}
use Rattle.lemmas.proofs.Distinct.{distinct_tail, head_is_new}
use Rattle.lemmas.specs.Lists.{AreDistinct}
use Rattle.turn_laws.proofs.PlainLevelLemmas.{due_shown}
use Rattle.task_model.specs.Fit.{IsFit}
use Rattle.task_model.specs.Known.{Known}
use Rattle.task_model.specs.Streams.{IsDue, yields_of}
use Rattle.task_model.specs.declared.stream.Instance.{Instance}
use Rattle.task_model.specs.declared.stream.Stream.{Stream}
use Rattle.task_model.specs.declared.task.Task.{Task}
use Rattle.transcript_model.proofs.LegalLemmas.{grows}
use Rattle.transcript_model.proofs.LegalNumberLemmas.{next_is_fresh}
use Rattle.transcript_model.proofs.LegalStepLemmas.{request_adds}
use Rattle.transcript_model.specs.Laws.{AddsRequest}
use Rattle.transcript_model.specs.Legal.{HasNoneOpen, IsLegal, IsRightAsk, asks_of, is_ask_of, is_open}
use Rattle.transcript_model.specs.Names.{call_of_instance, instance_of}
use Rattle.transcript_model.specs.Rounds.{requests_from}
use Rattle.transcript_model.specs.Transcript.{Asked, asked, known_of, names_of, notes_of}
use Rattle.transcript_model.specs.declared.entry.Entry.{Entry}
use Rattle.transcript_model.specs.declared.entry.Entry.TheVariants as entry

module _ (version : ℕ) (task : Task) (fit : IsFit task) (entries : List Entry) where
  -- Some requests behind the transcript changed nothing that is known, and those that are open are for these instances.
  record Asking (at : List Entry) (number : ℕ) (done : List Instance) : Type 0 where
    legal : IsLegal version task at
    known : known_of task at ≡ known_of task entries
    notes : notes_of task at ≡ notes_of task entries
    next : asks_of at + 1 ≡ number
    waiting : (n : ℕ) (a : Asked) → asked task at n ≡ Some a → is_open at n ≡ true → Contains done a.instance

  -- behind one request more, those that are open are for it or were open before
  open_later : (at after : List Entry) (number : ℕ) (done : List Instance) (i : Instance) (stream : Stream)
      → AddsRequest task at after number (record { stream = stream; instance = i })
      → ((n : ℕ) (a : Asked) → asked task at n ≡ Some a → is_open at n ≡ true → Contains done a.instance)
      → (n : ℕ) (a : Asked) → asked task after n ≡ Some a → is_open after n ≡ true → (b : Bool) → (n == number) ≡ b
      → Contains (i ∷ done) a.instance
  open_later at after number done i stream adds waiting n a was waits true is =
      let same : n ≡ number = eqb-true n number is in
      let both : Some a ≡ Some (record { stream = stream; instance = i }) = sym was ∙ ap (asked task after) same ∙ adds.here in
      let one : a ≡ record { stream = stream; instance = i } = cc in
      subst (λ (r : Asked). Contains (i ∷ done) r.instance) (sym one) (contains_here i done)
  open_later at after number done i stream adds waiting n a was waits false is =
      let other : ¬ (n ≡ number) = λ same. (let b : true ≡ false = sym (eq-eqb n number same) ∙ is in absurd (cc)) in
      let before : is_open at n ≡ true =
      sym (or_false (is_open at n)) ∙ ap (λ b. is_open at n || b) (sym is) ∙ sym (adds.waiting n) ∙ waits in
      contains_later i done a.instance (waiting n a (sym (adds.others n other) ∙ was) before)

  -- one request more
  asks_one : (at : List Entry) (number : ℕ) (done : List Instance) (i : Instance) → Asking at number done
      → IsDue task (known_of task entries) (notes_of task entries) i → IsLegal version task entries → ¬ (Contains done i)
      → Asking (at ++ entry.Ask number (yields_of (notes_of task entries) i) (call_of_instance task (names_of task entries) i) ∷ [])
      (number + 1) (i ∷ done)
  asks_one at number done i asking due legal fresh =
      let turn = yields_of (notes_of task entries) i in
      let call = call_of_instance task (names_of task entries) i in
      let names : names_of task at ≡ names_of task entries = ap (λ (k : Known). k.names) asking.known in
      let named : instance_of task (names_of task at) call ≡ Some i =
      ap (λ ns. instance_of task ns call) names ∙ due_shown version task fit entries legal i due in
      let here : IsDue task (known_of task at) (notes_of task at) i =
      subst (λ k. IsDue task k (notes_of task at) i) (sym asking.known)
      (subst (λ ns. IsDue task (known_of task entries) ns i) (sym asking.notes) due) in
      let right : IsRightAsk task at number turn call =
      record {
        next = sym asking.next;
        instance = i;
        named = named;
        due = here;
        closed = λ n a was same. closed n a was same (is_open at n) refl;
        turned = ap (λ ns. yields_of ns i) (sym asking.notes);
      } in
      let absent = subst (λ n. list_any (is_ask_of n) at ≡ false) asking.next (next_is_fresh version task at asking.legal) in
      let adds = request_adds version task at fit.problem.objects.names.distinct asking.legal number turn call due.stream i right absent
      named due.named in
      record {
        legal = (grows version task at).next (entry.Ask number turn call) asking.legal right;
        known = adds.same.known ∙ asking.known;
        notes = adds.same.notes ∙ asking.notes;
        next = omega (arith, adds.asks, asking.next);
        waiting = λ n a was waits. open_later at _ number done i due.stream adds asking.waiting n a was waits (n == number) refl;
      }
    where
      closed : (n : ℕ) (a : Asked) → asked task at n ≡ Some a → a.instance ≡ i → (b : Bool) → is_open at n ≡ b → is_open at n ≡ false
      closed n a was same true is = absurd (fresh (subst (Contains done) same (asking.waiting n a was is)))
      closed n a was same false is = is

  asks_all : (at : List Entry) (number : ℕ) (done list : List Instance) → Asking at number done → IsLegal version task entries
      → ((i : Instance) → Contains list i → IsDue task (known_of task entries) (notes_of task entries) i) → AreDistinct list
      → ((i : Instance) → Contains list i → ¬ (Contains done i))
      → IsLegal version task (at ++ requests_from task entries number list)
  asks_all at number done [] asking legal due distinct fresh = subst (IsLegal version task) (sym (append-nil at)) asking.legal
  asks_all at number done (i ∷ list) asking legal due distinct fresh =
      let e = entry.Ask number (yields_of (notes_of task entries) i) (call_of_instance task (names_of task entries) i) in
      let one = asks_one at number done i asking (due i (contains_here i list)) legal (fresh i (contains_here i list)) in
      subst (IsLegal version task) (append_assoc at (e ∷ []) (requests_from task entries (number + 1) list))
      (asks_all (at ++ e ∷ []) (number + 1) (i ∷ done) list one legal
      (λ x m. due x (contains_later i list x m)) (distinct_tail i list distinct)
      (λ x m c. elim (contains_cases i done x c) [
        | inl same ↦ head_is_new i list distinct (subst (Contains list) (sym same) m)
        | inr before ↦ fresh x (contains_later i list x m) before
      ]))

  -- the requests for distinct instances that are due
  pub dues_asked : (list : List Instance) → IsLegal version task entries → HasNoneOpen entries
      → ((i : Instance) → Contains list i → IsDue task (known_of task entries) (notes_of task entries) i) → AreDistinct list
      → IsLegal version task (entries ++ requests_from task entries (asks_of entries + 1) list)
  dues_asked list legal none due distinct =
      asks_all entries (asks_of entries + 1) [] list
      (record {
        legal = legal;
        known = refl;
        notes = refl;
        next = refl;
        waiting = λ n a was waits. absurd (let no : true ≡ false = sym waits ∙ none n in cc);
      }) legal due distinct (λ i m c. contains_none i c)
