-- Lazy transcripts, longer and shorter.
use Rattle.std.proofs.Common.{◌≡◌, ℕ, zero, suc, ◌+◌, arith, All, List, [], ◌∷◌, ◌++◌, take, true, false, inl, inr, refl, sym, subst, ap, ◌∙◌, append_assoc}
use Rattle.std.proofs.lemmas.List.{append-nil, take-append-le}
use Rattle.std.proofs.lemmas.List.Elements.{All-append, All-cons, All-head, All-nil, All-tail}
use Rattle.std.proofs.lemmas.Option.{slice_get_within}
use Rattle.lemmas.proofs.Members.{get_append, push_cases, take_append}
use Rattle.turn_laws.specs.Lazy.{IsLazy, IsTurnNeeded, begins}
use Rattle.task_model.specs.Streams.{yields_of}
use Rattle.task_model.specs.declared.stream.Instance.{Instance}
use Rattle.task_model.specs.declared.task.Task.{Task}
use Rattle.transcript_model.specs.Legal.{is_answer_to}
use Rattle.transcript_model.specs.Names.{call_of_instance}
use Rattle.transcript_model.specs.Rounds.{AreAnswers, AreRoundsRun, Limits, requests, requests_from}
use Rattle.transcript_model.specs.Transcript.{names_of, notes_of}
use Rattle.transcript_model.specs.declared.entry.Call.{Call}
use Rattle.transcript_model.specs.declared.entry.Entry.{Entry}
use Rattle.transcript_model.specs.declared.entry.Entry.TheVariants as entry
use Rattle.transcript_model.specs.declared.head.Mode.{Mode}
use Rattle.transcript_model.specs.declared.head.Mode.TheVariants.{Incremental, Focused, Binding, Adaptive}

-- nothing began yet
pub lazy_first : (limits : Limits) (task : Task) → IsLazy limits task []
lazy_first limits task k e at b = absurd (cc)

-- the front of a lazy transcript
pub lazy_front : (limits : Limits) (task : Task) (entries more : List Entry)
    → IsLazy limits task (entries ++ more) → IsLazy limits task entries
lazy_front limits task entries more lazy k e at b =
    subst (IsTurnNeeded limits task) (take-append-le k entries more (omega (arith, slice_get_within entries k e at)))
    (lazy k e (get_append entries more k e at) b)

-- one entry more, which begins a turn only where one is needed
pub lazy_push : (limits : Limits) (task : Task) (entries : List Entry) (last : Entry) → IsLazy limits task entries
    → (begins limits.mode last ≡ true → IsTurnNeeded limits task entries) → IsLazy limits task (entries ++ last ∷ [])
lazy_push limits task entries last lazy needed k e at b = elim (push_cases entries last k e at) [
  | inl h ↦ subst (IsTurnNeeded limits task) (sym (take-append-le k entries (last ∷ []) (omega (arith, slice_get_within entries k e h))))
      (lazy k e h b)
  | inr h ↦ subst (IsTurnNeeded limits task) (sym (ap (λ n. take n (entries ++ last ∷ [])) h.0 ∙ take_append entries (last ∷ [])))
      (needed (sym (ap (begins limits.mode) h.1) ∙ b))
]

-- entries that begin no turn
pub lazy_quiet : (limits : Limits) (task : Task) (entries more : List Entry) → IsLazy limits task entries
    → All (λ e. begins limits.mode e ≡ false) more → IsLazy limits task (entries ++ more)
lazy_quiet limits task entries [] lazy quiet = subst (IsLazy limits task) (sym (append-nil entries)) lazy
lazy_quiet limits task entries (e ∷ more) lazy quiet =
    subst (IsLazy limits task) (append_assoc entries (e ∷ []) more)
    (lazy_quiet limits task (entries ++ e ∷ []) more
    (lazy_push limits task entries e lazy
    (λ b. absurd (let bad : true ≡ false = sym b ∙ All-head (λ x. begins limits.mode x ≡ false) e more quiet in cc)))
    (All-tail (λ x. begins limits.mode x ≡ false) e more quiet))

-- ---- requests and answers begin no turn

ask_quiet : (mode : Mode) (n turn : ℕ) (call : Call) → begins mode (entry.Ask n turn call) ≡ false
ask_quiet Incremental n turn call = refl
ask_quiet Focused n turn call = refl
ask_quiet Binding n turn call = refl
ask_quiet Adaptive n turn call = refl

answer_quiet : (mode : Mode) (number : ℕ) (e : Entry) → is_answer_to number e ≡ true → begins mode e ≡ false
answer_quiet Incremental number (entry.Got n tuples values) is = refl
answer_quiet Focused number (entry.Got n tuples values) is = refl
answer_quiet Binding number (entry.Got n tuples values) is = refl
answer_quiet Adaptive number (entry.Got n tuples values) is = refl
answer_quiet Incremental number (entry.Value n value) is = refl
answer_quiet Focused number (entry.Value n value) is = refl
answer_quiet Binding number (entry.Value n value) is = refl
answer_quiet Adaptive number (entry.Value n value) is = refl
answer_quiet Incremental number (entry.End n) is = refl
answer_quiet Focused number (entry.End n) is = refl
answer_quiet Binding number (entry.End n) is = refl
answer_quiet Adaptive number (entry.End n) is = refl
answer_quiet mode number (entry.Ask n turn call) is = absurd (cc)
answer_quiet mode number entry.Level is = absurd (cc)
answer_quiet mode number (entry.Dream uses steps) is = absurd (cc)
answer_quiet mode number entry.Nothing is = absurd (cc)
answer_quiet mode number entry.Reset is = absurd (cc)
answer_quiet mode number (entry.Pick n) is = absurd (cc)
answer_quiet mode number (entry.Retire n) is = absurd (cc)

module _ (mode : Mode) where
  abbrev pub AreQuiet : List Entry → Type 0
  AreQuiet entries = All (λ e. begins mode e ≡ false) entries

  requests_quiet : (task : Task) (before : List Entry) (number : ℕ) (round : List Instance)
      → AreQuiet (requests_from task before number round)
  requests_quiet task before number [] = All-nil (λ e. begins mode e ≡ false)
  requests_quiet task before number (i ∷ is) =
      All-cons (λ e. begins mode e ≡ false)
      (entry.Ask number (yields_of (notes_of task before) i) (call_of_instance task (names_of task before) i))
      (requests_from task before (number + 1) is)
      (ask_quiet mode number (yields_of (notes_of task before) i) (call_of_instance task (names_of task before) i))
      (requests_quiet task before (number + 1) is)

  answers_quiet : (number n : ℕ) (es : List Entry) → AreAnswers number n es → AreQuiet es
  answers_quiet number zero [] are = All-nil (λ e. begins mode e ≡ false)
  answers_quiet number zero (e ∷ es) are = absurd are
  answers_quiet number (suc n) [] are = absurd are
  answers_quiet number (suc n) (e ∷ es) are =
      All-cons (λ x. begins mode x ≡ false) e es (answer_quiet mode number e are.0) (answers_quiet (number + 1) n es are.1)

  pub rounds_quiet : (task : Task) (before : List Entry) (rounds : List (List Instance)) (entries : List Entry)
      → AreRoundsRun task before rounds entries → AreQuiet entries
  rounds_quiet task before [] entries none = subst AreQuiet (sym none) (All-nil (λ e. begins mode e ≡ false))
  rounds_quiet task before (round ∷ rounds) entries (now, rest, is, (answers, same, are), run) =
      let here = subst AreQuiet (sym same) (All-append (λ e. begins mode e ≡ false)
      (requests task before round) answers (requests_quiet task before _ round) (answers_quiet _ _ answers are)) in
      subst AreQuiet (sym is) (All-append (λ e. begins mode e ≡ false) now rest here (rounds_quiet task (before ++ now) rounds rest run))
