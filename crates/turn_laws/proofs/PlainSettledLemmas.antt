-- Where every transcript that agrees with a table stays within the limits, no run ends with a limit.
use Rattle.std.proofs.Common.{◌≡◌, ℕ, ◌+◌, ◌≤◌, Bool, true, false, Contains, List, [], ◌∷◌, ◌++◌, length, take, drop, Some, slice_get, sym, ap, subst, ◌∙◌, arith, inl, inr}
use Rattle.std.proofs.lemmas.List.{length-take, take-append-drop}
use Rattle.std.proofs.lemmas.List.Elements.{Contains-append_left, Contains-append_cases}
use Rattle.std.specs.List.{list_any}
use Rattle.lemmas.proofs.Ascending.{contains_cases, contains_none}
use Rattle.std.proofs.lemmas.Bool.{or_left, or_right}
use Rattle.lemmas.proofs.Distinct.{distinct_cons}
use Rattle.lemmas.proofs.Members.{distinct_nil, get_append}
use Rattle.lemmas.specs.Lists.{AreDistinct}
use Rattle.turn_laws.proofs.PlainDuesLemmas.{dues_asked}
use Rattle.turn_laws.specs.PlainLaws.{IsSettledOutcome}
use Rattle.task_model.specs.Fit.{IsFit}
use Rattle.task_model.specs.Streams.{IsDue, yields_of}
use Rattle.task_model.specs.declared.stream.Instance.{Instance}
use Rattle.task_model.specs.declared.task.Task.{Task}
use Rattle.transcript_model.proofs.LegalNumberLemmas.{answer_asked, asks_more, number_below}
use Rattle.transcript_model.proofs.RoundsLemmas.{requests_asks}
use Rattle.transcript_model.specs.Legal.{HasNoneOpen, asks_of, is_answer_to}
use Rattle.transcript_model.specs.Names.{call_of_instance}
use Rattle.transcript_model.specs.Outcomes.{IsTrueOutcome}
use Rattle.transcript_model.specs.Rounds.{Limits, requests_from}
use Rattle.transcript_model.specs.Tables.{AgreesWith, Answers, AnswersAgree, IsBounded}
use Rattle.transcript_model.specs.Transcript.{known_of, names_of, notes_of}
use Rattle.transcript_model.specs.declared.entry.Call.{Call}
use Rattle.transcript_model.specs.declared.entry.Entry.{Entry}
use Rattle.transcript_model.specs.declared.entry.Entry.TheVariants as entry
use Rattle.transcript_model.specs.declared.limits.TheConstants.{MOST_CALLS}
use Rattle.transcript_model.specs.declared.outcome.LimitKind.TheVariants as limit
use Rattle.transcript_model.specs.declared.outcome.Outcome.{Outcome}
use Rattle.transcript_model.specs.declared.outcome.Outcome.TheVariants as outcome

-- ---- requests behind a transcript

-- these are requests, with numbers from this one on
request_of : (task : Task) (before : List Entry) (number : ℕ) (list : List Instance) (e : Entry)
    → Contains (requests_from task before number list) e
    → (n turn : ℕ) × (call : Call) × (e ≡ entry.Ask n turn call) × (number ≤ n)
request_of task before number [] e m = absurd (contains_none e m)
request_of task before number (i ∷ list) e m =
    elim (contains_cases _ (requests_from task before (number + 1) list) e m) [
      | inl same ↦ (number, yields_of (notes_of task before) i, call_of_instance task (names_of task before) i, sym same, omega arith)
      | inr later ↦ let r = request_of task before (number + 1) list e later in (r.0, r.1, r.2, r.3, omega (arith, r.4))
    ]

no_answer : (n m turn : ℕ) (call : Call) (e : Entry) → e ≡ entry.Ask m turn call → is_answer_to n e ≡ true → ⊥
no_answer n m turn call e is to = let no : false ≡ true = sym (ap (is_answer_to n) is) ∙ to in absurd (cc)

any_at : (test : Entry → Bool) (xs : List Entry) (x : Entry) → Contains xs x → test x ≡ true → list_any test xs ≡ true
any_at test [] x m is = absurd (contains_none x m)
any_at test (y ∷ xs) x m is =
    elim (contains_cases y xs x m) [
      | inl same ↦ or_left (test y) (list_any test xs) (ap test same ∙ is)
      | inr later ↦ or_right (test y) (list_any test xs) (any_at test xs x later is)
    ]

module _ (limits : Limits) (task : Task) (answers : Answers) (entries : List Entry) (fit : IsFit task)
    (agrees : AgreesWith limits.version task answers entries) (closed : HasNoneOpen entries)
    (bounded : IsBounded limits.version task answers limits.calls limits.states) where
  -- requests bring no answers
  agree_still : (list : List Instance) → AnswersAgree answers (entries ++ requests_from task entries (asks_of entries + 1) list)
  agree_still list n turn call e asked said to =
      elim (Contains-append_cases entries (requests_from task entries (asks_of entries + 1) list) e said) [
        | inr new ↦ let r = request_of task entries (asks_of entries + 1) list e new in absurd (no_answer n r.0 r.1 r.2 e r.3 to)
        | inl old ↦ elim (Contains-append_cases entries (requests_from task entries (asks_of entries + 1) list)
            (entry.Ask n turn call) asked) [
              | inl there ↦ agrees.by n turn call e there old to
              | inr new ↦
                  let r = request_of task entries (asks_of entries + 1) list (entry.Ask n turn call) new in
                  let both : entry.Ask n turn call ≡ entry.Ask r.0 r.1 r.2 = r.3 in
                  let same : n ≡ r.0 = cc in
                  let answered = any_at (is_answer_to n) entries e old to in
                  let few = number_below limits.version task entries n agrees.legal
                  (answer_asked limits.version task entries n agrees.legal answered) in
                  absurd (omega (arith, few.1, r.4, same))
            ]
      ]

  -- so distinct instances that are due leave no room for more calls
  room : (list : List Instance) → ((i : Instance) → Contains list i → IsDue task (known_of task entries) (notes_of task entries) i)
      → AreDistinct list → asks_of entries + length list ≤ limits.calls
  room list due distinct =
      let asks = requests_from task entries (asks_of entries + 1) list in
      let kept = bounded (entries ++ asks)
      (record { legal = dues_asked limits.version task fit entries list agrees.legal closed due distinct; by = agree_still list }) in
      omega (arith, kept.0, asks_more entries asks, requests_asks task entries (asks_of entries + 1) list)

  pub settled : limits.calls ≤ MOST_CALLS → (o : Outcome) → IsTrueOutcome limits task entries o → IsSettledOutcome o
  settled few (outcome.Plan steps cost from) claim = tt
  settled few outcome.NoPlan claim = tt
  settled few (outcome.Limit limit.States) claim = (bounded entries agrees).1 claim.many
  settled few (outcome.Limit limit.Calls) claim =
      let one = room (claim.instance ∷ []) (λ i m. elim (contains_cases claim.instance [] i m) [
        | inl same ↦ subst (IsDue task (known_of task entries) (notes_of task entries)) same claim.due
        | inr none ↦ absurd (contains_none i none)
      ]) (distinct_cons claim.instance [] distinct_nil (contains_none claim.instance)) in
      absurd (omega (arith, one, claim.calls))
  settled few (outcome.Limit limit.Instances) (list, many, distinct, due) =
      let front = take (limits.calls + 1) list in
      let inside : (i : Instance) → Contains front i → Contains list i =
      λ i m. subst (λ is. Contains is i) (take-append-drop (limits.calls + 1) list)
      (Contains-append_left front (drop (limits.calls + 1) list) i m) in
      let once : AreDistinct front =
      λ i j x at_i at_j. distinct i j x
      (subst (λ is. slice_get is i ≡ Some x) (take-append-drop (limits.calls + 1) list)
      (get_append front (drop (limits.calls + 1) list) i x at_i))
      (subst (λ is. slice_get is j ≡ Some x) (take-append-drop (limits.calls + 1) list)
      (get_append front (drop (limits.calls + 1) list) j x at_j)) in
      let all = room front (λ i m. due i (inside i m)) once in
      let long = length-take (limits.calls + 1) list in
      absurd (omega (arith, all, long, many, few))
