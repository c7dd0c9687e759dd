-- A report is judged in one way.
use Rattle.std.proofs.Common.{◌≡◌, ℕ, ◌<◌, ◌≤◌, ◌⊎◌, inl, inr, true, List, take, length, refl, sym, ap, subst, ◌∙◌, Some, slice_get, arith, take_all}
use Rattle.std.proofs.lemmas.Bool.{cases_lt}
use Rattle.std.proofs.lemmas.Option.{same_Some, slice_get_within}
use Rattle.lemmas.proofs.Members.{get_and_take}
use Rattle.report_text.proofs.ReportsReadBack.{same_report}
use Rattle.task_model.specs.declared.task.Task.{Task}
use Rattle.transcript_model.proofs.LegalNumberLemmas.{asks_rise}
use Rattle.transcript_model.specs.Legal.{MayFollow, is_answer}
use Rattle.transcript_model.specs.declared.entry.Entry.{Entry}
use Rattle.transcript_model.specs.declared.entry.Entry.TheVariants as entry
use Rattle.transcript_model.specs.declared.report.Report.{Report}
use Rattle.legal_report.proofs.OneFaultLemmas.{fault_once}
use Rattle.legal_report.specs.Laws.{LegalReportsAreNotRefused, ReportsAreRefusedOnce, TextsHaveOneTranscript}
use Rattle.legal_report.specs.Lines.{line_of}
use Rattle.legal_report.specs.Reports.{HasTranscript, IsFlawedAt, IsOfReport}
use Rattle.legal_report.specs.Transcripts.{IsSoundTranscript, IsWrongEntry, IsWrongAsk, FailsAtEntry}
use Rattle.legal_report.specs.declared.flaw.ReportFlaw.{ReportFlaw}
use Rattle.legal_report.specs.declared.flaw.ReportFlaw.TheVariants.{Text, Ask, Answer}

-- ---- entries

module _ (version : ℕ) (task : Task) (entries : List Entry) where
  -- an entry of a legal front isn't wrong
  front_right : (place k : ℕ) → place < k → IsSoundTranscript version task (take k entries) → (e : Entry)
      → slice_get entries place ≡ Some e → (flaw : ReportFlaw) → IsWrongEntry version task (take place entries) e flaw → ⊥
  front_right place k lt sound e at flaw wrong = by flaw wrong
    where
      may : MayFollow version task (take place entries) e
      may =
          let within = get_and_take entries place k e lt at in
          subst (λ before. MayFollow version task before e) within.1 (sound.legal place e within.0)

      by_ask : (d : Entry) → slice_get entries place ≡ Some d → MayFollow version task (take place entries) d
          → IsWrongAsk task (take place entries) d → ⊥
      by_ask (entry.Ask number turn call) there right bad =
          let next = right.next in
          let rise = asks_rise entries place k number turn call there lt in
          bad (right, omega (arith, next, rise, sound.few))
      by_ask (entry.Got number tuples values) there right bad = bad
      by_ask (entry.Value number value) there right bad = bad
      by_ask (entry.End number) there right bad = bad
      by_ask entry.Level there right bad = bad
      by_ask (entry.Dream uses steps) there right bad = bad
      by_ask entry.Nothing there right bad = bad
      by_ask entry.Reset there right bad = bad
      by_ask (entry.Pick number) there right bad = bad
      by_ask (entry.Retire number) there right bad = bad

      by : (why : ReportFlaw) → IsWrongEntry version task (take place entries) e why → ⊥
      by Ask bad = by_ask e at may bad
      by Answer bad = bad.1 may
      by Text bad = bad

  -- a legal transcript stops nowhere
  sound_stops : IsSoundTranscript version task entries → (place : ℕ) (flaw : ReportFlaw) → FailsAtEntry version task entries place flaw → ⊥
  sound_stops sound place flaw stops =
      front_right place (length entries) (slice_get_within entries place stops.e stops.there)
      (subst (IsSoundTranscript version task) (sym (take_all (length entries) entries (omega arith))) sound) stops.e
      stops.there flaw stops.wrong

  -- a request isn't an answer
  apart : (before : List Entry) (d : Entry) → IsWrongAsk task before d → is_answer d ≡ true → ⊥
  apart before (entry.Ask number turn call) bad is = absurd (cc)
  apart before (entry.Got number tuples values) bad is = bad
  apart before (entry.Value number value) bad is = bad
  apart before (entry.End number) bad is = bad
  apart before entry.Level bad is = bad
  apart before (entry.Dream uses steps) bad is = bad
  apart before entry.Nothing bad is = bad
  apart before entry.Reset bad is = bad
  apart before (entry.Pick number) bad is = bad
  apart before (entry.Retire number) bad is = bad

  flaws_same : (before : List Entry) (e : Entry) (flaw than : ReportFlaw) → IsWrongEntry version task before e flaw
      → IsWrongEntry version task before e than → flaw ≡ than
  flaws_same before e Ask Ask first second = refl
  flaws_same before e Answer Answer first second = refl
  flaws_same before e Ask Answer first second = absurd (apart before e first second.0)
  flaws_same before e Answer Ask first second = absurd (apart before e second first.0)
  flaws_same before e Text than first second = absurd first
  flaws_same before e Ask Text first second = absurd second
  flaws_same before e Answer Text first second = absurd second

  stops_once : (place other : ℕ) (flaw than : ReportFlaw) → FailsAtEntry version task entries place flaw
      → FailsAtEntry version task entries other than → (place ≡ other) × (flaw ≡ than)
  stops_once place other flaw than first second = by (cases_lt place other) (cases_lt other place)
    where
      here : place ≡ other → (place ≡ other) × (flaw ≡ than)
      here same =
          let e_same : first.e ≡ second.e =
          same_Some first.e second.e (sym first.there ∙ ap (slice_get entries) same ∙ second.there) in
          let before : take place entries ≡ take other entries = ap (λ k. take k entries) same in
          let wrong : IsWrongEntry version task (take other entries) second.e flaw =
          subst (λ es. IsWrongEntry version task es second.e flaw) before
          (subst (λ d. IsWrongEntry version task (take place entries) d flaw) e_same first.wrong) in
          (same, flaws_same (take other entries) second.e flaw than wrong second.wrong)

      by : (place < other) ⊎ (other ≤ place) → (other < place) ⊎ (place ≤ other) → (place ≡ other) × (flaw ≡ than)
      by (inl lt) q = absurd (front_right place other lt second.before first.e first.there flaw first.wrong)
      by (inr ge) (inl lt) = absurd (front_right other place lt first.before second.e second.there than second.wrong)
      by (inr ge) (inr le) = here (omega (arith, ge, le))

-- ---- texts

-- two things that are so of one report
of_one_report : (bytes : List ℕ) (P Q : Report → Type 0) (C : Type 0) → ((r : Report) → P r → Q r → C)
    → IsOfReport bytes P → IsOfReport bytes Q → C
of_one_report bytes P Q C f first second =
    f first.report first.said
    (subst Q (same_report second.report first.report second.formed first.formed (second.spelled ∙ sym first.spelled)) second.said)

pub one_transcript : TextsHaveOneTranscript
one_transcript task bytes first second a b =
    of_one_report bytes (HasTranscript task first) (HasTranscript task second) (first ≡ second) (λ r p q. sym p.0 ∙ q.0) a b

legal_unflawed : (task : Task) (entries : List Entry) (line : ℕ) (flaw : ReportFlaw) (r : Report) → HasTranscript task entries r
    → IsFlawedAt task line flaw r → ⊥
legal_unflawed task entries line flaw r has bad =
    sound_stops r.version task r.entries (subst (IsSoundTranscript r.version task) (sym has.0) has.1) bad.place flaw bad.stops

pub not_refused : LegalReportsAreNotRefused
not_refused task bytes entries line Text spelled fault = fault.none (spelled.report, spelled.formed, spelled.spelled)
not_refused task bytes entries line Ask spelled bad =
    of_one_report bytes (HasTranscript task entries) (IsFlawedAt task line Ask) ⊥ (legal_unflawed task entries line Ask) spelled bad
not_refused task bytes entries line Answer spelled bad =
    of_one_report bytes (HasTranscript task entries) (IsFlawedAt task line Answer) ⊥ (legal_unflawed task entries line Answer) spelled
    bad

flawed_once : (task : Task) (line other : ℕ) (flaw than : ReportFlaw) (r : Report) → IsFlawedAt task line flaw r
    → IsFlawedAt task other than r → (line ≡ other) × (flaw ≡ than)
flawed_once task line other flaw than r first second =
    let same = stops_once r.version task r.entries first.place second.place flaw than first.stops second.stops in
    (first.is ∙ ap (line_of r) same.0 ∙ sym second.is, same.1)

both_flawed : (task : Task) (bytes : List ℕ) (line other : ℕ) (flaw than : ReportFlaw)
    → IsOfReport bytes (IsFlawedAt task line flaw) → IsOfReport bytes (IsFlawedAt task other than)
    → (line ≡ other) × (flaw ≡ than)
both_flawed task bytes line other flaw than first second =
    of_one_report bytes (IsFlawedAt task line flaw) (IsFlawedAt task other than) ((line ≡ other) × (flaw ≡ than))
    (flawed_once task line other flaw than) first second

pub refused_once : ReportsAreRefusedOnce
refused_once task bytes line other Text Text first second = (fault_once bytes line other first second, refl)
refused_once task bytes line other Text Ask first second =
    absurd (first.none (second.report, second.formed, second.spelled))
refused_once task bytes line other Text Answer first second =
    absurd (first.none (second.report, second.formed, second.spelled))
refused_once task bytes line other Ask Text first second =
    absurd (second.none (first.report, first.formed, first.spelled))
refused_once task bytes line other Answer Text first second =
    absurd (second.none (first.report, first.formed, first.spelled))
refused_once task bytes line other Ask Ask first second = both_flawed task bytes line other Ask Ask first second
refused_once task bytes line other Ask Answer first second = both_flawed task bytes line other Ask Answer first second
refused_once task bytes line other Answer Ask first second = both_flawed task bytes line other Answer Ask first second
refused_once task bytes line other Answer Answer first second = both_flawed task bytes line other Answer Answer first second
