-- Why a run stops at a file, and that no streams are fit.
use Rattle.std.proofs.Common.{◌≡◌, ℕ, ◌≤◌, List, [], ◌∷◌, refl, sym, ap, subst, arith, Option, None, Some, option_map, Result}
use Rattle.std.proofs.lemmas.Result.{IfErr-weaker}
use Rattle.std.specs.Prelude.{IfErr}
use Rattle.lemmas.specs.Lists.{LeadsAlong}
use Rattle.io_world.specs.FileMap.{FileMap}
use Rattle.legal_report.specs.Reports.{RefusesReport, SpellsTranscript}
use Rattle.legal_report.specs.declared.flaw.ReportFlaw.{ReportFlaw}
use Rattle.plan_reader.specs.Plans.{RefusesPlan}
use Rattle.stream_reader.specs.Fitness.{AreFitOver}
use Rattle.task_model.specs.Fit.{leads}
use Rattle.task_model.specs.Known.{Known}
use Rattle.task_model.specs.declared.domain.Domain as domains
use Rattle.task_model.specs.declared.stream.Stream.{Stream}
use Rattle.task_model.specs.declared.task.Problem as problems
use Rattle.task_model.specs.declared.task.Task.{Task}
use Rattle.task_reader.specs.Refusals.{Refuses}
use Rattle.task_reader.specs.Texts.{RefusesDomain, RefusesProblem, RefusesStreams, SpellsStreams}
use Rattle.task_reader.specs.declared.refusal.InputRefusal.{InputRefusal}
use Rattle.task_reader.specs.declared.refusal.InputRefusal.TheVariants as refusal
use Rattle.transcript_model.specs.declared.entry.Entry.{Entry}
use Rattle.validate_app.specs.Files.{EndsAt, TextsSeen, HasTextBytes}
use Rattle.validate_app.specs.Inputs.{AreAcceptedBefore, AreStreamsBy, AreStreamsByWords, HasProblem, HoldsText, IsCertain, IsDomainOf, IsPlainTaskOf, IsProblemOf, IsTranscriptBy, IsTranscriptOf, StopsAtText, path_of, text_stop}
use Rattle.validate_app.specs.Words.{ReportWords, ValidateWords}
use Rattle.validate_app.specs.declared.stop.FileRole.{FileRole}
use Rattle.validate_app.specs.declared.stop.FileRole.TheVariants.{Domain, Problem, Streams, Report, Plan}
use Rattle.validate_app.specs.declared.stop.Stop.{Stop}
use Rattle.validate_app.specs.declared.stop.Stop.TheVariants as stop

-- what texts spell is the same of an equal domain, and where later files tell the same
pub problem_kept : (told later : Option FileMap) (w : ValidateWords) (d e : domains.Domain) (p : problems.Problem)
    → later ≡ told → d ≡ e → IsProblemOf told w d p → IsProblemOf later w e p
problem_kept told later w d e p same is so =
    subst (λ files. IsProblemOf files w e p) (sym same) (subst (λ (x : domains.Domain). IsProblemOf told w x p) is so)

-- and of an equal task
pub transcript_kept : (told later : Option FileMap) (w : ValidateWords) (t u : Task) (entries : List Entry)
    → later ≡ told → t ≡ u → IsTranscriptOf told w t entries → IsTranscriptOf later w u entries
transcript_kept told later w t u entries same is so =
    subst (λ files. IsTranscriptOf files w u entries) (sym same)
    (subst (λ (x : Task). IsTranscriptOf told w x entries) is so)

pub certain_kept : (told : Option FileMap) (w : ValidateWords) (t u : Task) (known : Known)
    → t ≡ u → IsCertain told w t known → IsCertain told w u known
certain_kept told w t u known is so = subst (λ (x : Task). IsCertain told w x known) is so

-- where a run stops for want of memory alone, it may stop
pub memory_stops : {T : Type 0} (files : TextsSeen) (w : ValidateWords) (r : Result T Stop)
    → IfErr r (λ s. s ≡ stop.Memory) → IfErr r (StopsAtText files w)
memory_stops files w r h =
    IfErr-weaker r (λ s. s ≡ stop.Memory) (StopsAtText files w) (λ s is. subst (StopsAtText files w) (sym is) tt) h

module _ (told : Option FileMap) (w : ValidateWords) where
  -- what is so of the text is so of the file's bytes
  holds : (which : FileRole) (path : List ℕ) → path_of w which ≡ Some path → (bytes : List ℕ)
      → HasTextBytes told which path bytes → (text : List ℕ) → text ≡ bytes → (IsSo : List ℕ → Type 0) → IsSo text
      → HoldsText told w which IsSo
  holds which path named bytes has text is IsSo so =
      record { path = path; named = named; bytes = bytes; has = has; so = subst IsSo is so }

  module _ (r : ReportWords) (certified : w.certified ≡ Some r) where
    pub streams_named : path_of w Streams ≡ Some r.streams
    streams_named = ap (option_map (λ (r : ReportWords). r.streams)) certified

    pub report_named : path_of w Report ≡ Some r.report
    report_named = ap (option_map (λ (r : ReportWords). r.report)) certified

    pub streams_there : (d : domains.Domain) (bytes : List ℕ) → HasTextBytes told Streams r.streams bytes
        → (text : List ℕ) → text ≡ bytes → (ss : List Stream) → SpellsStreams d text ss → AreStreamsByWords told w d ss
    streams_there d bytes has text is ss spelled =
        let there = holds Streams r.streams streams_named bytes has text is (λ b. SpellsStreams d b ss) spelled in
        subst (AreStreamsBy told w d ss) (sym certified) there

    pub report_there : (task : Task) (bytes : List ℕ) → HasTextBytes told Report r.report bytes
        → (text : List ℕ) → text ≡ bytes → (entries : List Entry) → SpellsTranscript task text entries
        → IsTranscriptOf told w task entries
    report_there task bytes has text is entries spelled =
        let there = holds Report r.report report_named bytes has text is
        (λ b. SpellsTranscript task b entries) spelled in
        subst (IsTranscriptBy told w task entries) (sym certified) there

module _ (files : TextsSeen) (w : ValidateWords) where
  -- behind accepted texts a run stops at the file that isn't read
  pub stops_there : (which : FileRole) → AreAcceptedBefore files.told w which → (path : List ℕ) → path_of w which
      ≡ Some path
      → (why : Stop) → EndsAt files which path why → StopsAtText files w why
  stops_there which accepted path named stop.Usage ends = absurd ends
  stops_there which accepted path named (stop.Refused other kind place) ends = absurd ends
  stops_there which accepted path named (stop.Flawed line flaw) ends = absurd ends
  stops_there which accepted path named (stop.Failed other) ends =
      (subst (AreAcceptedBefore files.told w) (sym ends.0) accepted, ends.1)
  stops_there which accepted path named (stop.TooLong other) ends =
      subst (λ r. StopsAtText files w (stop.TooLong r)) (sym ends.0) (accepted, (path, named, ends.1))
  stops_there which accepted path named stop.Memory ends = tt

  pub domain_refused : (bytes : List ℕ) → HasTextBytes files.told Domain w.domain bytes → (text : List ℕ) → text ≡ bytes
      → (why : InputRefusal) → Refuses (RefusesDomain text) why → (s : Stop) → s ≡ text_stop Domain why
      → StopsAtText files w s
  domain_refused bytes has text is (refusal.At kind place) r s so =
      subst (StopsAtText files w) (sym so)
      (holds files.told w Domain w.domain refl bytes has text is (λ b. RefusesDomain b kind place) r)
  domain_refused bytes has text is refusal.Memory r s so = subst (StopsAtText files w) (sym so) tt

  pub problem_refused : (d : domains.Domain) → IsDomainOf files.told w d → (bytes : List ℕ)
      → HasTextBytes files.told Problem w.problem bytes → (text : List ℕ) → text ≡ bytes → (why : InputRefusal)
      → Refuses (RefusesProblem d text) why → (s : Stop) → s ≡ text_stop Problem why → StopsAtText files w s
  problem_refused d there bytes has text is (refusal.At kind place) r s so =
      subst (StopsAtText files w) (sym so)
      (d, there, holds files.told w Problem w.problem refl bytes has text is (λ b. RefusesProblem d b kind place) r)
  problem_refused d there bytes has text is refusal.Memory r s so = subst (StopsAtText files w) (sym so) tt

  pub plan_refused : AreAcceptedBefore files.told w Plan → (bytes : List ℕ) → HasTextBytes files.told Plan w.plan bytes
      → (text : List ℕ) → text ≡ bytes → (why : InputRefusal) → Refuses (RefusesPlan text) why → (s : Stop)
      → s ≡ text_stop Plan why
      → StopsAtText files w s
  plan_refused accepted bytes has text is (refusal.At kind place) r s so =
      subst (StopsAtText files w) (sym so)
      (accepted, holds files.told w Plan w.plan refl bytes has text is (λ b. RefusesPlan b kind place) r)
  plan_refused accepted bytes has text is refusal.Memory r s so = subst (StopsAtText files w) (sym so) tt

module _ (files : TextsSeen) (w : ValidateWords) (r : ReportWords) (certified : w.certified ≡ Some r) where
  pub streams_refused : (d : domains.Domain) → IsDomainOf files.told w d → HasProblem files.told w d → (bytes : List ℕ)
      → HasTextBytes files.told Streams r.streams bytes → (text : List ℕ) → text ≡ bytes → (why : InputRefusal)
      → Refuses (RefusesStreams d text) why → (s : Stop) → s ≡ text_stop Streams why → StopsAtText files w s
  streams_refused d there problem bytes has text is (refusal.At kind place) refused s so =
      subst (StopsAtText files w) (sym so) (
        d,
        there,
        problem,
        holds files.told w Streams r.streams (streams_named files.told w r certified) bytes has text is
            (λ b. RefusesStreams d b kind place) refused,
      )
  streams_refused d there problem bytes has text is refusal.Memory refused s so =
      subst (StopsAtText files w) (sym so) tt

  pub report_flawed : (task : Task) → IsPlainTaskOf files.told w task → (bytes : List ℕ)
      → HasTextBytes files.told Report r.report bytes → (text : List ℕ) → text ≡ bytes → (line : ℕ) (flaw : ReportFlaw)
      → RefusesReport task text line flaw → StopsAtText files w (stop.Flawed line flaw)
  report_flawed task spelled bytes has text is line flaw refused = (
    task,
    spelled,
    holds files.told w Report r.report (report_named files.told w r certified) bytes has text is
        (λ b. RefusesReport task b line flaw) refused,
  )

module _ (told : Option FileMap) (first mid last : ℕ) (earlier : first ≤ mid) (w : ValidateWords) where
  -- a run stops so since its beginning too
  pub stops_since : (later : Option FileMap) → later ≡ told → (why : Stop)
      → StopsAtText (record { told = later; first = mid; last = last }) w why
      → StopsAtText (record { told = told; first = first; last = last }) w why
  stops_since later same stop.Usage n = absurd n
  stops_since later same (stop.Refused which kind place) n =
      subst (λ t. StopsAtText (record { told = t; first = first; last = last }) w (stop.Refused which kind place))
      same n
  stops_since later same (stop.Flawed line flaw) n =
      subst (λ t. StopsAtText (record { told = t; first = first; last = last }) w (stop.Flawed line flaw)) same n
  stops_since later same (stop.Failed which) n =
      (subst (λ t. AreAcceptedBefore t w which) same n.0, let rose = n.1 in omega (arith, earlier, rose))
  stops_since later same (stop.TooLong which) n =
      subst (λ t. StopsAtText (record { told = t; first = first; last = last }) w (stop.TooLong which)) same n
  stops_since later same stop.Memory n = tt

module _ (told : Option FileMap) (w : ValidateWords) (none : w.certified ≡ None) where
  -- where no report is named there are no streams
  pub no_streams_named : (d : domains.Domain) (ss : List Stream) → ss ≡ [] → AreStreamsByWords told w d ss
  no_streams_named d ss is = subst (AreStreamsBy told w d ss) (sym none) is

  -- and the transcript is empty
  pub no_report_named : (task : Task) → IsTranscriptOf told w task []
  no_report_named task = subst (IsTranscriptBy told w task []) (sym none) refl

-- ---- no streams

-- no stream leads to itself where there is none
pub no_streams : (d : domains.Domain) (ss : List Stream) → ss ≡ [] → AreFitOver d ss
no_streams d ss none = subst (AreFitOver d) (sym none) (λ p. record {
  names = record { each = refl; distinct = λ i j x a b. absurd (cc) };
  each = refl;
  acyclic = λ stream between. by p stream between;
})
  where
    by : (p : problems.Problem) (stream : ℕ) (between : List ℕ)
        → ¬ (LeadsAlong (leads (record { domain = d; problem = p; streams = [] })) stream between stream)
    by p stream [] e = absurd (cc)
    by p stream (next ∷ more) e = let first = e.0 in absurd (cc)
