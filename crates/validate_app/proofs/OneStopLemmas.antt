-- A run stops at one file, for one thing, and where something is said at none.
use Rattle.std.proofs.Common.{◌≡◌, ◌⊎◌, inl, inr, ℕ, ◌<◌, List, length, refl, sym, ap, subst, ◌∙◌, arith, Option, None, Some, option_map}
use Rattle.std.proofs.lemmas.Option.{same_Some}
use Rattle.domain_reader.specs.Domains as domain_texts
use Rattle.io_world.specs.FileMap.{FileMap, HasMore}
use Rattle.legal_report.proofs.LawsLemmas as reports
use Rattle.legal_report.specs.Reports.{RefusesReport, SpellsTranscript}
use Rattle.legal_report.specs.declared.flaw.ReportFlaw.{ReportFlaw}
use Rattle.plan_reader.specs.Claims.{claimed_cost}
use Rattle.plan_reader.specs.Plans.{RefusesPlan, SpellsPlan, WrongLine}
use Rattle.problem_reader.specs.Problems as problem_texts
use Rattle.stream_reader.specs.Reading as stream_texts
use Rattle.task_reader.proofs.SpelledLemmas.{domain_not_refused, problem_not_refused, streams_not_refused}
use Rattle.task_reader.specs.Texts.{RefusesDomain, RefusesProblem, RefusesStreams, SpellsDomain, SpellsProblem, SpellsStreams}
use Rattle.task_reader.specs.declared.refusal.FaultKind.{FaultKind}
use Rattle.task_reader.specs.declared.refusal.InputRefusal.TheVariants as refusal
use Rattle.transcript_model.specs.declared.entry.Call.{Call}
use Rattle.validate_app.proofs.LawsLemmas.{of_one_text, one_domain, one_task}
use Rattle.validate_app.proofs.RefusedOnceLemmas.{one_domain_fault, one_problem_fault, one_streams_fault, refused_once}
use Rattle.validate_app.specs.Files.{most_text_bytes}
use Rattle.validate_app.specs.Inputs.{AreAcceptedBefore, AreStreamsBy, HasMoreBytes, HoldsText, IsReportFlawed, IsPlanOf, IsTextRefused, IsTranscriptBy, StopsAtText, path_of, text_stop}
use Rattle.validate_app.specs.Laws.{IsFailure}
use Rattle.validate_app.specs.Outcomes.{IsJudgedPlan}
use Rattle.validate_app.specs.Words.{ReportWords, ValidateWords}
use Rattle.validate_app.specs.declared.stop.FileRole.{FileRole}
use Rattle.validate_app.specs.declared.stop.FileRole.TheVariants as role
use Rattle.validate_app.specs.declared.stop.Stop.{Stop}
use Rattle.validate_app.specs.declared.stop.Stop.TheVariants as stop
use Rattle.validate_app.specs.declared.verdict.Verdict.{Verdict}

module _ (told : FileMap) (w : ValidateWords) where
  abbrev pub seen : Option FileMap
  seen = Some told

  -- the text of this file is accepted
  abbrev IsGood : FileRole → Type 0
  IsGood role.Domain = AreAcceptedBefore seen w role.Problem
  IsGood role.Problem = AreAcceptedBefore seen w role.Streams
  IsGood role.Streams = AreAcceptedBefore seen w role.Report
  IsGood role.Report = AreAcceptedBefore seen w role.Plan
  IsGood role.Plan = (calls : List Call) × (claimed : Option ℕ) × IsPlanOf seen w calls claimed

  -- why a run stops at this file, which was read
  pub data Halts (which : FileRole) (why : Stop) : Type 0 where
    refused : (kind : FaultKind) (place : ℕ) → IsTextRefused seen w which kind place → why
        ≡ stop.Refused which kind place
        → Halts which why
    flawed : (line : ℕ) (flaw : ReportFlaw) → which ≡ role.Report → IsReportFlawed seen w line flaw → why
        ≡ stop.Flawed line flaw
        → Halts which why
    long : HasMoreBytes seen w which → why ≡ stop.TooLong which → Halts which why

  pub record IsHalt (why : Stop) : Type 0 where
    pub which : FileRole
    pub before : AreAcceptedBefore seen w which
    pub halts : Halts which why

  before_refused : (which : FileRole) (kind : FaultKind) (place : ℕ) → IsTextRefused seen w which kind place
      → AreAcceptedBefore seen w which
  before_refused role.Domain kind place r = tt
  before_refused role.Problem kind place (d, domain, r) = (d, domain)
  before_refused role.Streams kind place (d, domain, problem, r) = (d, domain, problem)
  before_refused role.Report kind place r = absurd r
  before_refused role.Plan kind place (accepted, r) = accepted

  pub halt : (first last : ℕ) (why : Stop) → StopsAtText (record { told = seen; first = first; last = last }) w why
      → IsFailure why ⊎ IsHalt why
  halt first last stop.Usage s = absurd s
  halt first last (stop.Refused which kind place) s = inr (record {
    which = which;
    before = before_refused which kind place s;
    halts = refused kind place s refl;
  })
  halt first last (stop.Flawed line flaw) (task, spelled, s) = inr (record {
    which = role.Report;
    before = (task, spelled);
    halts = flawed line flaw refl (task, spelled, s) refl;
  })
  halt first last (stop.Failed which) s = inl (inr (which, refl))
  halt first last (stop.TooLong which) s =
      inr (record { which = which; before = s.0; halts = long s.1 refl })
  halt first last stop.Memory s = inl (inl refl)

  -- ---- at one file

  -- a file that holds something has not too many bytes
  short_enough : (which : FileRole) (IsSo : List ℕ → Type 0) → HoldsText seen w which IsSo
      → ¬ (HasMoreBytes seen w which)
  short_enough which IsSo holds (path, named, more) =
      let paths : holds.path ≡ path = same_Some holds.path path (sym holds.named ∙ named) in
      let held : told path ≡ Some holds.bytes = ap told (sym paths) ∙ holds.has.held in
      let longer : most_text_bytes which < length holds.bytes =
      subst (λ o. HasMore o (most_text_bytes which)) held more in
      omega (arith, longer, holds.has.short)

  refused_short : (which : FileRole) (kind : FaultKind) (place : ℕ) → IsTextRefused seen w which kind place
      → ¬ (HasMoreBytes seen w which)
  refused_short role.Domain kind place r more =
      short_enough role.Domain (λ bytes. RefusesDomain bytes kind place) r more
  refused_short role.Problem kind place (d, domain, r) more =
      short_enough role.Problem (λ bytes. RefusesProblem d bytes kind place) r more
  refused_short role.Streams kind place (d, domain, problem, r) more =
      short_enough role.Streams (λ bytes. RefusesStreams d bytes kind place) r more
  refused_short role.Report kind place r more = r
  refused_short role.Plan kind place (accepted, r) more =
      short_enough role.Plan (λ bytes. RefusesPlan bytes kind place) r more

  flawed_short : (line : ℕ) (flaw : ReportFlaw) → IsReportFlawed seen w line flaw → ¬ (HasMoreBytes seen w role.Report)
  flawed_short line flaw (task, spelled, r) more =
      short_enough role.Report (λ bytes. RefusesReport task bytes line flaw) r more

  one_refusal : (which : FileRole) (kind than : FaultKind) (place other : ℕ) → IsTextRefused seen w which kind place
      → IsTextRefused seen w which than other → refusal.At kind place ≡ refusal.At than other
  one_refusal role.Domain kind than place other r s =
      of_one_text told w role.Domain (λ bytes. RefusesDomain bytes kind place) (λ bytes. RefusesDomain bytes than other)
      (refusal.At kind place ≡ refusal.At than other)
      (λ bytes. refused_once domain_texts.IsDomainAnswered one_domain_fault bytes kind than place other) r s
  one_refusal role.Problem kind than place other (d, domain, r) (e, again, s) =
      let same = one_domain told w e d again domain in
      of_one_text told w role.Problem (λ bytes. RefusesProblem d bytes kind place)
      (λ bytes. RefusesProblem d bytes than other)
      (refusal.At kind place ≡ refusal.At than other)
      (λ bytes. refused_once (problem_texts.IsProblemAnswered d) (one_problem_fault d) bytes kind than place other) r
      (subst (λ x. HoldsText seen w role.Problem (λ bytes. RefusesProblem x bytes than other)) same s)
  one_refusal role.Streams kind than place other (d, domain, problem, r) (e, again, also, s) =
      let same = one_domain told w e d again domain in
      of_one_text told w role.Streams (λ bytes. RefusesStreams d bytes kind place)
      (λ bytes. RefusesStreams d bytes than other)
      (refusal.At kind place ≡ refusal.At than other)
      (λ bytes. refused_once (stream_texts.AreStreamsAnswered d) (one_streams_fault d) bytes kind than place other) r
      (subst (λ x. HoldsText seen w role.Streams (λ bytes. RefusesStreams x bytes than other)) same s)
  one_refusal role.Report kind than place other r s = absurd r
  one_refusal role.Plan kind than place other (accepted, r) (again, s) =
      of_one_text told w role.Plan (λ bytes. RefusesPlan bytes kind place) (λ bytes. RefusesPlan bytes than other)
      (refusal.At kind place ≡ refusal.At than other)
      (λ bytes a b. let both : wrong kind place ≡ wrong than other = (let same = sym a ∙ b in cc) in
      ap (λ (x : WrongLine). refusal.At x.kind x.place) both) r s
    where
      wrong : FaultKind → ℕ → WrongLine
      wrong kind place = record { kind = kind; place = place }

  one_flaw : (line other : ℕ) (flaw than : ReportFlaw) → IsReportFlawed seen w line flaw
      → IsReportFlawed seen w other than
      → stop.Flawed line flaw ≡ stop.Flawed other than
  one_flaw line other flaw than (task, spelled, r) (also, again, s) =
      let tasks = one_task told w also task again spelled in
      let same = of_one_text told w role.Report (λ bytes. RefusesReport task bytes line flaw)
      (λ bytes. RefusesReport task bytes other than) ((line ≡ other) × (flaw ≡ than))
      (λ bytes. reports.refused_once task bytes line other flaw than) r
      (subst (λ x. HoldsText seen w role.Report (λ bytes. RefusesReport x bytes other than)) tasks s) in
      λ i. stop.Flawed (same.0 i) (same.1 i)

  halts_once : (which : FileRole) (why than : Stop) → Halts which why → Halts which than → why ≡ than
  halts_once which why than (refused kind place r is) (refused other at s so) =
      is ∙ ap (λ x. text_stop which x) (one_refusal which kind other place at r s) ∙ sym so
  halts_once which why than (refused kind place r is) (flawed line flaw report s so) =
      absurd (subst (λ x. IsTextRefused seen w x kind place) report r)
  halts_once which why than (refused kind place r is) (long more so) = absurd (refused_short which kind place r more)
  halts_once which why than (flawed line flaw report r is) (refused kind place s so) =
      absurd (subst (λ x. IsTextRefused seen w x kind place) report s)
  halts_once which why than (flawed line flaw report r is) (flawed other at also s so) =
      is ∙ one_flaw line other flaw at r s ∙ sym so
  halts_once which why than (flawed line flaw report r is) (long more so) =
      absurd (flawed_short line flaw r (subst (λ x. HasMoreBytes seen w x) report more))
  halts_once which why than (long more is) (refused kind place r so) = absurd (refused_short which kind place r more)
  halts_once which why than (long more is) (flawed line flaw report r so) =
      absurd (flawed_short line flaw r (subst (λ x. HasMoreBytes seen w x) report more))
  halts_once which why than (long more is) (long also so) = is ∙ sym so

  -- ---- a file whose text is accepted

  unnamed : w.certified ≡ None → (path : List ℕ) → ¬ (path_of w role.Report ≡ Some path)
  unnamed none path named = absurd (let both = sym (ap (option_map (λ (r : ReportWords). r.report)) none) ∙ named in cc)

  streamless : w.certified ≡ None → (path : List ℕ) → ¬ (path_of w role.Streams ≡ Some path)
  streamless none path named = absurd
      (let both = sym (ap (option_map (λ (r : ReportWords). r.streams)) none) ∙ named in cc)

  -- it is refused for nothing
  good_unrefused : (which : FileRole) → IsGood which → (kind : FaultKind) (place : ℕ)
      → ¬ (IsTextRefused seen w which kind place)
  good_unrefused role.Domain (d, domain) kind place bad =
      of_one_text told w role.Domain (λ bytes. SpellsDomain bytes d) (λ bytes. RefusesDomain bytes kind place) ⊥
      (λ bytes. domain_not_refused bytes d kind place) domain bad
  good_unrefused role.Problem (d, domain, (p, problem)) kind place (e, again, bad) =
      let same = one_domain told w e d again domain in
      of_one_text told w role.Problem (λ bytes. SpellsProblem d bytes p) (λ bytes. RefusesProblem d bytes kind place) ⊥
      (λ bytes. problem_not_refused d bytes p kind place) problem
      (subst (λ x. HoldsText seen w role.Problem (λ bytes. RefusesProblem x bytes kind place)) same bad)
  good_unrefused role.Streams (task, t) kind place (e, again, problem, bad) =
      let same = one_domain told w e task.domain again t.domain in
      by w.certified refl (subst (λ x. HoldsText seen w role.Streams (λ bytes. RefusesStreams x bytes kind place))
      same bad)
    where
      by : (o : Option ReportWords) → w.certified ≡ o
          → ¬ (HoldsText seen w role.Streams (λ bytes. RefusesStreams task.domain bytes kind place))
      by None none there = streamless none there.path there.named
      by (Some words) some there =
          of_one_text told w role.Streams (λ bytes. SpellsStreams task.domain bytes task.streams)
          (λ bytes. RefusesStreams task.domain bytes kind place) ⊥
          (λ bytes. streams_not_refused task.domain bytes task.streams kind place)
          (subst (AreStreamsBy seen w task.domain task.streams) some t.streams) there
  good_unrefused role.Report good kind place bad = bad
  good_unrefused role.Plan (calls, claimed, plan) kind place (accepted, bad) =
      of_one_text told w role.Plan (λ text. SpellsPlan text calls × (claimed_cost text ≡ claimed))
      (λ text. RefusesPlan text kind place) ⊥
      (λ text spells refuses. absurd (let both = sym spells.0 ∙ refuses in cc)) plan bad

  -- nor is it a report that certifies nothing
  good_unflawed : IsGood role.Report → (line : ℕ) (flaw : ReportFlaw) → ¬ (IsReportFlawed seen w line flaw)
  good_unflawed (task, entries, t, report) line flaw (other, spelled, bad) = by w.certified refl
    where
      same : other ≡ task
      same = one_task told w other task spelled t

      by : (o : Option ReportWords) → w.certified ≡ o → ⊥
      by None none = unnamed none bad.path bad.named
      by (Some words) some =
          of_one_text told w role.Report (λ bytes. SpellsTranscript task bytes entries)
          (λ bytes. RefusesReport task bytes line flaw) ⊥
          (λ bytes. reports.not_refused task bytes entries line flaw)
          (subst (IsTranscriptBy seen w task entries) some report)
          (subst (λ u. HoldsText seen w role.Report (λ bytes. RefusesReport u bytes line flaw)) same bad)

  -- nor has it too many bytes
  good_short : (which : FileRole) → IsGood which → ¬ (HasMoreBytes seen w which)
  good_short role.Domain (d, domain) more = short_enough role.Domain (λ bytes. SpellsDomain bytes d) domain more
  good_short role.Problem (d, domain, (p, problem)) more =
      short_enough role.Problem (λ bytes. SpellsProblem d bytes p) problem more
  good_short role.Streams (task, t) more = by w.certified refl
    where
      by : (o : Option ReportWords) → w.certified ≡ o → ⊥
      by None none = streamless none more.0 more.1
      by (Some words) some =
          short_enough role.Streams (λ bytes. SpellsStreams task.domain bytes task.streams)
          (subst (AreStreamsBy seen w task.domain task.streams) some t.streams) more
  good_short role.Report (task, entries, t, report) more = by w.certified refl
    where
      by : (o : Option ReportWords) → w.certified ≡ o → ⊥
      by None none = unnamed none more.0 more.1
      by (Some words) some =
          short_enough role.Report (λ bytes. SpellsTranscript task bytes entries)
          (subst (IsTranscriptBy seen w task entries) some report) more
  good_short role.Plan (calls, claimed, plan) more =
      short_enough role.Plan (λ text. SpellsPlan text calls × (claimed_cost text ≡ claimed)) plan more

  -- so no run stops at it
  good_goes_on : (which : FileRole) → IsGood which → (why : Stop) → ¬ (Halts which why)
  good_goes_on which good why (refused kind place r is) = good_unrefused which good kind place r
  good_goes_on which good why (flawed line flaw report r is) =
      good_unflawed (subst (λ x. IsGood x) report good) line flaw r
  good_goes_on which good why (long more is) = good_short which good more

  -- ---- at two files

  behind_report : AreAcceptedBefore seen w role.Plan → AreAcceptedBefore seen w role.Report
  behind_report (task, entries, t, report) = (task, t)

  behind_streams : AreAcceptedBefore seen w role.Report → AreAcceptedBefore seen w role.Streams
  behind_streams (task, t) = (task.domain, t.domain, (task.problem, t.problem))

  behind_problem : AreAcceptedBefore seen w role.Streams → AreAcceptedBefore seen w role.Problem
  behind_problem (d, domain, problem) = (d, domain)

  -- the files are one, or the one that is read first is accepted where the other one is read
  abbrev OneIsFirst : FileRole → FileRole → Type 0
  OneIsFirst a b = (a ≡ b) ⊎ ((AreAcceptedBefore seen w b → IsGood a) ⊎ (AreAcceptedBefore seen w a → IsGood b))

  one_first : (a b : FileRole) → OneIsFirst a b
  one_first role.Domain role.Domain = inl refl
  one_first role.Domain role.Problem = inr (inl (λ x. x))
  one_first role.Domain role.Streams = inr (inl behind_problem)
  one_first role.Domain role.Report = inr (inl (λ x. behind_problem (behind_streams x)))
  one_first role.Domain role.Plan = inr (inl (λ x. behind_problem (behind_streams (behind_report x))))
  one_first role.Problem role.Domain = inr (inr (λ x. x))
  one_first role.Problem role.Problem = inl refl
  one_first role.Problem role.Streams = inr (inl (λ x. x))
  one_first role.Problem role.Report = inr (inl behind_streams)
  one_first role.Problem role.Plan = inr (inl (λ x. behind_streams (behind_report x)))
  one_first role.Streams role.Domain = inr (inr behind_problem)
  one_first role.Streams role.Problem = inr (inr (λ x. x))
  one_first role.Streams role.Streams = inl refl
  one_first role.Streams role.Report = inr (inl (λ x. x))
  one_first role.Streams role.Plan = inr (inl behind_report)
  one_first role.Report role.Domain = inr (inr (λ x. behind_problem (behind_streams x)))
  one_first role.Report role.Problem = inr (inr behind_streams)
  one_first role.Report role.Streams = inr (inr (λ x. x))
  one_first role.Report role.Report = inl refl
  one_first role.Report role.Plan = inr (inl (λ x. x))
  one_first role.Plan role.Domain = inr (inr (λ x. behind_problem (behind_streams (behind_report x))))
  one_first role.Plan role.Problem = inr (inr (λ x. behind_streams (behind_report x)))
  one_first role.Plan role.Streams = inr (inr behind_report)
  one_first role.Plan role.Report = inr (inr (λ x. x))
  one_first role.Plan role.Plan = inl refl

  pub one_halt : (why than : Stop) → IsHalt why → IsHalt than → why ≡ than
  one_halt why than a b = by (one_first a.which b.which)
    where
      by : OneIsFirst a.which b.which → why ≡ than
      by (inl same) = halts_once b.which why than (subst (λ x. Halts x why) same a.halts) b.halts
      by (inr (inl first)) = absurd (good_goes_on a.which (first b.before) why a.halts)
      by (inr (inr first)) = absurd (good_goes_on b.which (first a.before) than b.halts)

  -- ---- where something is said

  all_good : (v : Verdict) (claimed : Option ℕ) → IsJudgedPlan seen w v claimed → (which : FileRole) → IsGood which
  all_good v claimed a role.Domain = behind_problem (behind_streams (a.task, a.spelled))
  all_good v claimed a role.Problem = behind_streams (a.task, a.spelled)
  all_good v claimed a role.Streams = (a.task, a.spelled)
  all_good v claimed a role.Report = (a.task, a.entries, a.spelled, a.report)
  all_good v claimed a role.Plan = (a.calls, claimed, a.plan)

  pub judged_goes_on : (v : Verdict) (claimed : Option ℕ) (why : Stop) → IsJudgedPlan seen w v claimed → ¬ (IsHalt why)
  judged_goes_on v claimed why a h = good_goes_on h.which (all_good v claimed a h.which) why h.halts
