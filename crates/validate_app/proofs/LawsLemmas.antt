-- Told files are judged in one way.
use Rattle.std.proofs.Common.{◌≡◌, ℕ, List, [], refl, sym, ap, subst, ◌∙◌, Option, None, Some}
use Rattle.std.proofs.lemmas.Option.{same_Some}
use Rattle.io_world.specs.FileMap.{FileMap}
use Rattle.legal_report.proofs.LawsLemmas.{one_transcript}
use Rattle.legal_report.specs.Reports.{SpellsTranscript}
use Rattle.plan_reader.specs.Claims.{claimed_cost}
use Rattle.plan_reader.specs.Plans.{SpellsPlan}
use Rattle.task_model.specs.Fit.{AreFitStreams, IsFit}
use Rattle.task_model.specs.Known.{IsCoherent}
use Rattle.task_model.specs.declared.domain.Domain as domains
use Rattle.task_model.specs.declared.stream.Stream.{Stream}
use Rattle.task_model.specs.declared.task.Problem as problems
use Rattle.task_model.specs.declared.task.Task.{Task}
use Rattle.task_reader.proofs.FitTask.{domain_fit, problem_fit, streams_fit}
use Rattle.task_reader.proofs.SpelledLemmas.{text_one_domain, text_one_problem, text_one_streams}
use Rattle.task_reader.specs.Fitness.{HasShortText}
use Rattle.task_reader.specs.Texts.{SpellsDomain, SpellsProblem, SpellsStreams}
use Rattle.transcript_model.proofs.CoherentLemmas.{coherent}
use Rattle.transcript_model.specs.Legal.{IsLegal}
use Rattle.transcript_model.specs.Transcript.{known_of}
use Rattle.transcript_model.specs.declared.entry.Call.{Call}
use Rattle.transcript_model.specs.declared.entry.Entry.{Entry}
use Rattle.validate_app.proofs.InputsLemmas.{no_streams}
use Rattle.validate_app.proofs.OneVerdictLemmas.{some_verdict, verdict_once}
use Rattle.validate_app.specs.Inputs.{AreStreamsBy, AreStreamsByWords, HoldsText, IsDomainOf, IsPlanOf, IsProblemOf, IsPlainTaskOf, IsTranscriptBy, IsTranscriptOf}
use Rattle.validate_app.specs.Laws.{SpelledPlansAreJudged}
use Rattle.validate_app.specs.Outcomes.{IsJudgedPlan}
use Rattle.validate_app.specs.Verdicts.{IsPlanVerdict}
use Rattle.validate_app.specs.Words.{ReportWords, ValidateWords}
use Rattle.validate_app.specs.declared.stop.FileRole.{FileRole}
use Rattle.validate_app.specs.declared.stop.FileRole.TheVariants as role
use Rattle.validate_app.specs.declared.verdict.Verdict.{Verdict}

-- ---- the task is fit

module _ (told : Option FileMap) (w : ValidateWords) (task : Task) (t : IsPlainTaskOf told w task) where
  short_text : HasShortText task.domain
  short_text = record { bytes = t.domain.bytes; short = t.domain.has.short; spelled = t.domain.so }

  pub fit_task : IsFit task
  fit_task = record {
    domain = domain_fit t.domain.bytes task.domain t.domain.has.short t.domain.so;
    problem = problem_fit task.domain t.problem.bytes task.problem short_text t.problem.has.short t.problem.so
        task.streams;
    streams = by w.certified refl;
  }
    where
      by : (o : Option ReportWords) → w.certified ≡ o → AreFitStreams task
      by None none =
          no_streams task.domain task.streams
          (subst (AreStreamsBy told w task.domain task.streams) none t.streams) task.problem
      by (Some report) some =
          let there : HoldsText told w role.Streams (λ bytes. SpellsStreams task.domain bytes task.streams) =
          subst (AreStreamsBy told w task.domain task.streams) some t.streams in
          streams_fit task.domain there.bytes task.streams short_text there.has.short there.so task.problem

-- ---- what is known is coherent

-- the transcript is legal
legal_of : (told : Option FileMap) (w : ValidateWords) (task : Task) (entries : List Entry)
    → IsTranscriptOf told w task entries
    → (version : ℕ) × IsLegal version task entries
legal_of told w task entries report = by w.certified refl
  where
    by : (o : Option ReportWords) → w.certified ≡ o → (version : ℕ) × IsLegal version task entries
    by None none =
        let is : entries ≡ [] = subst (IsTranscriptBy told w task entries) none report in
        (1, subst (IsLegal 1 task) (sym is) (λ k e at. absurd (cc)))
    by (Some words) some =
        let there : HoldsText told w role.Report (λ bytes. SpellsTranscript task bytes entries) =
        subst (IsTranscriptBy told w task entries) some report in
        (there.so.report.version, there.so.said.1.legal)

known_coherent : (told : Option FileMap) (w : ValidateWords) (task : Task) → IsFit task → (entries : List Entry)
    → IsTranscriptOf told w task entries → IsCoherent (known_of task entries)
known_coherent told w task fit entries report =
    let legal = legal_of told w task entries report in coherent legal.0 task entries fit legal.1

-- ---- something is said

pub are_judged : SpelledPlansAreJudged
are_judged told w task entries calls claimed spelled report plan =
    let fit = fit_task told w task spelled in
    let said = some_verdict task fit (known_of task entries) (known_coherent told w task fit entries report) calls in (
      said.0,
      record {
        task = task;
        spelled = spelled;
        entries = entries;
        report = report;
        calls = calls;
        plan =
            plan;
        said = said.1;
      },
    )

-- ---- what files hold is one thing

module _ (told : FileMap) (w : ValidateWords) where
  abbrev files : Option FileMap
  files = Some told

  -- what is so of the bytes of one file
  pub of_one_text : (which : FileRole) (P Q : List ℕ → Type 0) (C : Type 0) → ((bytes : List ℕ) → P bytes → Q bytes → C)
      → HoldsText files w which P → HoldsText files w which Q → C
  of_one_text which P Q C f a b =
      let paths : a.path ≡ b.path = same_Some a.path b.path (sym a.named ∙ b.named) in
      let same : b.bytes ≡ a.bytes = same_Some b.bytes a.bytes (sym b.has.held ∙ ap told (sym paths) ∙ a.has.held) in
      f a.bytes a.so (subst Q same b.so)

  pub one_domain : (d e : domains.Domain) → IsDomainOf files w d → IsDomainOf files w e → d ≡ e
  one_domain d e =
      of_one_text role.Domain (λ bytes. SpellsDomain bytes d) (λ bytes. SpellsDomain bytes e) (d ≡ e)
      (λ bytes. text_one_domain bytes d e)

  one_problem : (d : domains.Domain) (p q : problems.Problem) → IsProblemOf files w d p → IsProblemOf files w d q → p
      ≡ q
  one_problem d p q =
      of_one_text role.Problem (λ bytes. SpellsProblem d bytes p) (λ bytes. SpellsProblem d bytes q) (p ≡ q)
      (λ bytes. text_one_problem d bytes p q)

  one_streams : (d : domains.Domain) (ss ts : List Stream) → AreStreamsByWords files w d ss
      → AreStreamsByWords files w d ts → ss ≡ ts
  one_streams d ss ts a b = by w.certified refl
    where
      by : (o : Option ReportWords) → w.certified ≡ o → ss ≡ ts
      by None none =
          let first : ss ≡ [] = subst (AreStreamsBy files w d ss) none a in
          let second : ts ≡ [] = subst (AreStreamsBy files w d ts) none b in
          first ∙ sym second
      by (Some report) some =
          of_one_text role.Streams (λ bytes. SpellsStreams d bytes ss) (λ bytes. SpellsStreams d bytes ts) (ss ≡ ts)
          (λ bytes. text_one_streams d bytes ss ts) (subst (AreStreamsBy files w d ss) some a)
          (subst (AreStreamsBy files w d ts) some b)

  pub one_task : (t u : Task) → IsPlainTaskOf files w t → IsPlainTaskOf files w u → t ≡ u
  one_task t u a b =
      let domain = one_domain t.domain u.domain a.domain b.domain in
      let problem = one_problem t.domain t.problem u.problem a.problem
      (subst (λ d. IsProblemOf files w d u.problem) (sym domain) b.problem) in
      let streams = one_streams t.domain t.streams u.streams a.streams
      (subst (λ d. AreStreamsByWords files w d u.streams) (sym domain) b.streams) in
      λ i. record { domain = domain i; problem = problem i; streams = streams i }

  one_report : (task : Task) (xs ys : List Entry) → IsTranscriptOf files w task xs → IsTranscriptOf files w task ys
      → xs ≡ ys
  one_report task xs ys a b = by w.certified refl
    where
      by : (o : Option ReportWords) → w.certified ≡ o → xs ≡ ys
      by None none =
          let first : xs ≡ [] = subst (IsTranscriptBy files w task xs) none a in
          let second : ys ≡ [] = subst (IsTranscriptBy files w task ys) none b in
          first ∙ sym second
      by (Some report) some =
          of_one_text role.Report (λ bytes. SpellsTranscript task bytes xs) (λ bytes. SpellsTranscript task bytes ys)
          (xs ≡ ys)
          (λ bytes. one_transcript task bytes xs ys) (subst (IsTranscriptBy files w task xs) some a)
          (subst (IsTranscriptBy files w task ys) some b)

  same_plan : (text : List ℕ) (xs ys : List Call) (c d : Option ℕ) → SpellsPlan text xs × (claimed_cost text ≡ c)
      → SpellsPlan text ys × (claimed_cost text ≡ d) → (xs ≡ ys) × (c ≡ d)
  same_plan text xs ys c d a b = (let both = sym a.0 ∙ b.0 in cc, sym a.1 ∙ b.1)

  one_plan : (xs ys : List Call) (c d : Option ℕ) → IsPlanOf files w xs c → IsPlanOf files w ys d → (xs ≡ ys) × (c ≡ d)
  one_plan xs ys c d =
      of_one_text role.Plan (λ text. SpellsPlan text xs × (claimed_cost text ≡ c))
      (λ text. SpellsPlan text ys × (claimed_cost text ≡ d))
      ((xs ≡ ys) × (c ≡ d)) (λ text. same_plan text xs ys c d)

-- of told files one verdict holds at most, with one claim
pub judged_once : (told : FileMap) (w : ValidateWords) (v u : Verdict) (c d : Option ℕ) → IsJudgedPlan (Some told) w v c
    → IsJudgedPlan (Some told) w u d → (v ≡ u) × (c ≡ d)
judged_once told w v u c d a b =
    let fit = fit_task (Some told) w a.task a.spelled in
    let task : a.task ≡ b.task = one_task told w a.task b.task a.spelled b.spelled in
    let entries : a.entries ≡ b.entries =
    one_report told w a.task a.entries b.entries a.report
    (subst (λ t. IsTranscriptOf (Some told) w t b.entries) (sym task) b.report) in
    let plan = one_plan told w a.calls b.calls c d a.plan b.plan in
    let said : IsPlanVerdict a.task (known_of a.task a.entries) a.calls u =
    subst (λ t. IsPlanVerdict t (known_of t a.entries) a.calls u) (sym task)
    (subst (λ es. IsPlanVerdict b.task (known_of b.task es) a.calls u) (sym entries)
    (subst (λ cs. IsPlanVerdict b.task (known_of b.task b.entries) cs u) (sym plan.0) b.said)) in (
      verdict_once a.task fit (known_of a.task a.entries)
          (known_coherent (Some told) w a.task fit a.entries a.report) a.calls v u
          a.said said,
      plan.1,
    )
