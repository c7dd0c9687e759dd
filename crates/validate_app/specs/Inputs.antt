-- What the files of the words spell, and why a run stops at one of them.
use Rattle.std.specs.Prelude.{◌≡◌, ℕ, List, [], Option, None, Some, option_map, ⊤}
use Rattle.io_world.specs.FileMap.{FileMap}
use Rattle.legal_report.specs.Reports.{RefusesReport, SpellsTranscript}
use Rattle.legal_report.specs.declared.flaw.ReportFlaw.{ReportFlaw}
use Rattle.plan_reader.specs.Claims.{claimed_cost}
use Rattle.plan_reader.specs.Plans.{RefusesPlan, SpellsPlan}
use Rattle.task_model.specs.Known.{Known}
use Rattle.task_model.specs.declared.domain.Domain as domains
use Rattle.task_model.specs.declared.stream.Stream.{Stream}
use Rattle.task_model.specs.declared.task.Problem as problems
use Rattle.task_model.specs.declared.task.Task.{Task}
use Rattle.task_reader.specs.Texts.{RefusesDomain, RefusesProblem, RefusesStreams, SpellsDomain, SpellsProblem, SpellsStreams}
use Rattle.task_reader.specs.declared.refusal.FaultKind.{FaultKind}
use Rattle.task_reader.specs.declared.refusal.InputRefusal.{InputRefusal}
use Rattle.task_reader.specs.declared.refusal.InputRefusal.TheVariants as refusal
use Rattle.transcript_model.specs.Transcript.{known_of}
use Rattle.transcript_model.specs.declared.entry.Call.{Call}
use Rattle.transcript_model.specs.declared.entry.Entry.{Entry}
use Rattle.validate_app.specs.Files.{TextsSeen, HasTextBytes, TextsHaveFailed, IsTextTooLong}
use Rattle.validate_app.specs.Words.{ReportWords, ValidateWords}
use Rattle.validate_app.specs.declared.stop.FileRole.{FileRole}
use Rattle.validate_app.specs.declared.stop.FileRole.TheVariants.{Domain, Problem, Streams, Report, Plan}
use Rattle.validate_app.specs.declared.stop.Stop.{Stop}
use Rattle.validate_app.specs.declared.stop.Stop.TheVariants as stop

-- the path of a file, if the words name it
abbrev pub path_of : ValidateWords → FileRole → Option (List ℕ)
path_of w Domain = Some w.domain
path_of w Problem = Some w.problem
path_of w Streams = option_map (λ (r : ReportWords). r.streams) w.certified
path_of w Report = option_map (λ (r : ReportWords). r.report) w.certified
path_of w Plan = Some w.plan

-- The words name the file, and it has bytes of which this is so.
pub record HoldsText (told : Option FileMap) (w : ValidateWords) (which : FileRole)
    (IsSo : List ℕ → Type 0) : Type 0 where
  pub path : List ℕ
  pub named : path_of w which ≡ Some path
  pub bytes : List ℕ
  pub has : HasTextBytes told which path bytes
  pub so : IsSo bytes

-- the domain's file spells this domain
abbrev pub IsDomainOf : Option FileMap → ValidateWords → domains.Domain → Type 0
IsDomainOf told w d = HoldsText told w Domain (λ bytes. SpellsDomain bytes d)

-- over the domain the problem's file spells this problem
abbrev pub IsProblemOf : Option FileMap → ValidateWords → domains.Domain → problems.Problem → Type 0
IsProblemOf told w d p = HoldsText told w Problem (λ bytes. SpellsProblem d bytes p)

-- over the domain the problem's file spells some problem
abbrev pub HasProblem : Option FileMap → ValidateWords → domains.Domain → Type 0
HasProblem told w d = (p : problems.Problem) × IsProblemOf told w d p

-- over the domain the streams' file spells these streams; there are none where no report is named
abbrev pub AreStreamsBy : Option FileMap → ValidateWords → domains.Domain → List Stream → Option ReportWords → Type 0
AreStreamsBy told w d ss None = ss ≡ []
AreStreamsBy told w d ss (Some report) = HoldsText told w Streams (λ bytes. SpellsStreams d bytes ss)

-- the same, by what the words name
abbrev pub AreStreamsByWords : Option FileMap → ValidateWords → domains.Domain → List Stream → Type 0
AreStreamsByWords told w d ss = AreStreamsBy told w d ss w.certified

-- The files spell this task.
pub record IsPlainTaskOf (told : Option FileMap) (w : ValidateWords) (task : Task) : Type 0 where
  pub domain : IsDomainOf told w task.domain
  pub problem : IsProblemOf told w task.domain task.problem
  pub streams : AreStreamsByWords told w task.domain task.streams

-- over the task the report's file has this transcript, which is legal; it is empty where no report is named
abbrev pub IsTranscriptBy : Option FileMap → ValidateWords → Task → List Entry → Option ReportWords → Type 0
IsTranscriptBy told w task entries None = entries ≡ []
IsTranscriptBy told w task entries (Some report) =
    HoldsText told w Report (λ bytes. SpellsTranscript task bytes entries)

-- the same, by what the words name
abbrev pub IsTranscriptOf : Option FileMap → ValidateWords → Task → List Entry → Type 0
IsTranscriptOf told w task entries = IsTranscriptBy told w task entries w.certified

-- this is known: what a transcript that the files have certifies behind what is known at first
abbrev pub IsCertain : Option FileMap → ValidateWords → Task → Known → Type 0
IsCertain told w task known =
    (entries : List Entry) × IsTranscriptOf told w task entries × (known ≡ known_of task entries)

-- the plan's file spells these steps, and claims this cost
abbrev pub IsPlanOf : Option FileMap → ValidateWords → List Call → Option ℕ → Type 0
IsPlanOf told w calls claimed = HoldsText told w Plan (λ bytes. SpellsPlan bytes calls × (claimed_cost bytes ≡ claimed))

-- the texts before this file's are accepted
abbrev pub AreAcceptedBefore : Option FileMap → ValidateWords → FileRole → Type 0
AreAcceptedBefore told w Domain = ⊤
AreAcceptedBefore told w Problem = (d : domains.Domain) × IsDomainOf told w d
AreAcceptedBefore told w Streams = (d : domains.Domain) × IsDomainOf told w d × HasProblem told w d
AreAcceptedBefore told w Report = (task : Task) × IsPlainTaskOf told w task
AreAcceptedBefore told w Plan =
    (task : Task) × (entries : List Entry) × IsPlainTaskOf told w task × IsTranscriptOf told w task entries

-- behind accepted texts this file's is refused for this fault at this place
abbrev pub IsTextRefused : Option FileMap → ValidateWords → FileRole → FaultKind → ℕ → Type 0
IsTextRefused told w Domain kind place = HoldsText told w Domain (λ bytes. RefusesDomain bytes kind place)
IsTextRefused told w Problem kind place =
    (d : domains.Domain) × IsDomainOf told w d × HoldsText told w Problem (λ bytes. RefusesProblem d bytes kind place)
IsTextRefused told w Streams kind place =
    (d : domains.Domain) × IsDomainOf told w d × HasProblem told w d
    × HoldsText told w Streams (λ bytes. RefusesStreams d bytes kind place)
IsTextRefused told w Report kind place = ⊥
IsTextRefused told w Plan kind place =
    AreAcceptedBefore told w Plan × HoldsText told w Plan (λ bytes. RefusesPlan bytes kind place)

-- over the task that the files spell the report's file certifies nothing, for this flaw in this line
abbrev pub IsReportFlawed : Option FileMap → ValidateWords → ℕ → ReportFlaw → Type 0
IsReportFlawed told w line flaw =
    (task : Task) × IsPlainTaskOf told w task × HoldsText told w Report (λ bytes. RefusesReport task bytes line flaw)

-- the words name the file, and it has more bytes than it may have
abbrev pub HasMoreBytes : Option FileMap → ValidateWords → FileRole → Type 0
HasMoreBytes told w which = (path : List ℕ) × (path_of w which ≡ Some path) × IsTextTooLong told which path

-- Why a run stops at a file, those before it being accepted: it is refused; the count of faults rose; or it has more
-- bytes than it may have. Want of memory is free.
abbrev pub StopsAtText : TextsSeen → ValidateWords → Stop → Type 0
StopsAtText files w stop.Usage = ⊥
StopsAtText files w (stop.Refused which kind place) = IsTextRefused files.told w which kind place
StopsAtText files w (stop.Flawed line flaw) = IsReportFlawed files.told w line flaw
StopsAtText files w (stop.Failed which) = AreAcceptedBefore files.told w which × TextsHaveFailed files
StopsAtText files w (stop.TooLong which) = AreAcceptedBefore files.told w which × HasMoreBytes files.told w which
StopsAtText files w stop.Memory = ⊤

-- what a refusal of this text stops for
abbrev pub text_stop : FileRole → InputRefusal → Stop
text_stop which (refusal.At kind place) = stop.Refused which kind place
text_stop which refusal.Memory = stop.Memory
