-- Why a run ends at a file, and the task that files spell.
use Rattle.std.proofs.Common.{◌≡◌, ℕ, ◌≤◌, arith, List, [], ◌∷◌, ◌++◌, subst, refl, Option, Result, Ok, Err, IfOk}
use Rattle.io_world.proofs.TalksLemmas.{extends_more}
use Rattle.io_world.specs.FileMap.{AskedPath, FileMap}
use Rattle.io_world.specs.Faults.{Extends}
use Rattle.task_model.specs.Fit.{IsFit}
use Rattle.task_model.specs.declared.domain.Domain as domains
use Rattle.task_model.specs.declared.task.Problem as problems
use Rattle.task_model.specs.declared.task.Task.{Task}
use Rattle.task_reader.proofs.FitTask.{spelled_tasks_fit}
use Rattle.task_reader.specs.Refusals.{Refuses}
use Rattle.task_reader.specs.Texts.{SpellsDomain, SpellsProblem, RefusesDomain, RefusesProblem, RefusesStreams}
use Rattle.task_reader.specs.declared.refusal.InputRefusal.{InputRefusal}
use Rattle.task_reader.specs.declared.refusal.InputRefusal.TheVariants as refusal
use Rattle.command_line.specs.Words.{TaskFiles}
use Rattle.command_files.specs.Files.{AreBytes, FileWanted, HasBytes, file_of}
use Rattle.command_files.specs.Inputs.{AreAccepted, EndsAtFile, EndsHere, IsInputRefused, IsTaskOf, MayEnd, ask, reads, stop_for, task_files}
use Rattle.command_files.specs.Outside.{FilesSeen}
use Rattle.round_run.specs.declared.fault.RunFault.TheVariants as fault
use Rattle.command_files.specs.declared.stop.Stop.{Stop}
use Rattle.command_files.specs.declared.stop.Stop.TheVariants.{Usage, Input, Map, Grid, Failed, TooLong, Run}
use Rattle.command_files.specs.declared.stop.FileRole.TheVariants as role
use Rattle.command_files.specs.declared.stop.Text.{Text}
use Rattle.command_files.specs.declared.stop.Text.TheVariants.{Domain, Problem, Streams}

-- ---- files one after another

pub later_on : (first mid last : ℕ) → first ≤ mid → mid ≤ last → first ≤ last
later_on first mid last a b = omega (arith, a, b)

abbrev pub looks : Option FileMap → ℕ → ℕ → Option (List AskedPath) → Option (List AskedPath) → FilesSeen
looks told first last old new =
    record { told = told; first = first; last = last; before = old; after = new }

module _ (told : Option FileMap) (first mid last : ℕ) (earlier : first ≤ mid) (old middle new : Option (List AskedPath)) where
  -- the count rose since the beginning too
  ends_since : (texts : List (List ℕ)) (wanted : FileWanted) (why : Stop)
      → MayEnd (looks told mid last middle new) texts wanted why
      → MayEnd (looks told first last old new) texts wanted why
  ends_since texts wanted Usage n = absurd n
  ends_since texts wanted (Input which kind place) n = n
  ends_since texts wanted (Map why) n = n
  ends_since texts wanted (Grid kind line) n = n
  ends_since texts wanted (Failed which) n = (n.0, let rose = n.1 in omega (arith, earlier, rose))
  ends_since texts wanted (TooLong which) n = n
  ends_since texts wanted (Run (fault.Answer number why)) n = absurd n
  ends_since texts wanted (Run fault.Generator) n = absurd n
  ends_since texts wanted (Run fault.Write) n = absurd n
  ends_since texts wanted (Run fault.Memory) n = tt

  -- a run ends at a file behind those that were read
  pub ends_behind : (later : Option FileMap) → later ≡ told → (before : List FileWanted)
      → Extends old middle (reads before) → (texts : List (List ℕ)) → AreBytes told before texts → AreAccepted before texts
      → (wanted : FileWanted) (more : List FileWanted) (why : Stop)
      → EndsHere (looks later mid last middle new) texts wanted why
      → EndsAtFile (looks told first last old new) (before ++ wanted ∷ more) why
  ends_behind later same before read texts are accepted wanted more why ends = record {
    before = before;
    wanted = wanted;
    later = more;
    order = refl;
    texts = texts;
    are = are;
    accepted = accepted;
    cause = ends_since texts wanted why (subst (λ t. MayEnd (looks t mid last middle new) texts wanted why) same ends.cause);
    answer = ends.answer;
    answered = ends.answered;
    asked = extends_more old middle new (reads before) (ask ends.answer wanted ∷ []) read ends.asked;
  }

-- a run ends at the first file
pub ends_first : (files : FilesSeen) (wanted : FileWanted) (more : List FileWanted) (why : Stop)
    → EndsHere files [] wanted why → EndsAtFile files (wanted ∷ more) why
ends_first files wanted more why ends = record {
  before = [];
  wanted = wanted;
  later = more;
  order = refl;
  texts = [];
  are = tt;
  accepted = tt;
  cause = ends.cause;
  answer = ends.answer;
  answered = ends.answered;
  asked = ends.asked;
}

-- ---- refusals

pub refused_first : (bytes : List ℕ) (why : InputRefusal) → Refuses (RefusesDomain bytes) why
    → Refuses (IsInputRefused [] Domain bytes) why
refused_first bytes (refusal.At kind place) r = r
refused_first bytes refusal.Memory r = tt

module _ (domain : List ℕ) (d : domains.Domain) (spelled : SpellsDomain domain d) where
  pub refused_second : (bytes : List ℕ) (why : InputRefusal) → Refuses (RefusesProblem d bytes) why
      → Refuses (IsInputRefused (domain ∷ []) Problem bytes) why
  refused_second bytes (refusal.At kind place) r =
      record { domain = d; first = spelled; refused = r }
  refused_second bytes refusal.Memory r = tt

  pub refused_third : (problem : List ℕ) (p : problems.Problem) → SpellsProblem d problem p
      → (bytes : List ℕ) (why : InputRefusal) → Refuses (RefusesStreams d bytes) why
      → Refuses (IsInputRefused (domain ∷ problem ∷ []) Streams bytes) why
  refused_third problem p second bytes (refusal.At kind place) r =
      record { domain = d; first = spelled; problem = p; second = second; refused = r }
  refused_third problem p second bytes refusal.Memory r = tt

-- the run ends at a file whose text is refused
pub ends_refused : (files : FilesSeen) (texts : List (List ℕ)) (which : Text) (path bytes : List ℕ)
    → HasBytes files.told (file_of (role.Text which) path) bytes
    → Extends files.before files.after (ask (Ok tt) (file_of (role.Text which) path) ∷ [])
    → (why : InputRefusal) → Refuses (IsInputRefused texts which bytes) why
    → EndsHere files texts (file_of (role.Text which) path) (stop_for which why)
ends_refused files texts which path bytes has asked (refusal.At kind place) r =
    record { cause = (refl, record { bytes = bytes; has = has; so = r }); answer = Ok tt; answered = refl; asked = asked }
ends_refused files texts which path bytes has asked refusal.Memory r =
    record { cause = tt; answer = Ok tt; answered = tt; asked = asked }

-- ---- the task

-- the task that the texts spell is fit
pub fit_if_spelled : (told : Option FileMap) (paths : TaskFiles) (result : Result Task Stop)
    → IfOk result (IsTaskOf told paths)
    → IfOk result (λ task. IsFit task)
fit_if_spelled told paths (Ok task) is =
    spelled_tasks_fit is.domain is.problem is.streams task is.are.0.short is.are.1.0.short is.are.1.1.0.short is.spelled
fit_if_spelled told paths (Err why) is = tt

-- a run ends at the report of a task that was read
pub ends_at_report : (paths : TaskFiles) (report : List ℕ) (more : List FileWanted) (task : Task) (told later : Option FileMap)
    → later ≡ told → (first mid last : ℕ) → first ≤ mid → (old middle new : Option (List AskedPath)) → IsTaskOf told paths task
    → Extends old middle (reads (task_files paths)) → (why : Stop)
    → ((texts : List (List ℕ)) → EndsHere (looks later mid last middle new) texts (file_of role.Report report) why)
    → EndsAtFile (looks told first last old new) (task_files paths ++ file_of role.Report report ∷ more) why
ends_at_report paths report more task told later same first mid last earlier old middle new t read why ends =
    let texts = t.domain ∷ t.problem ∷ t.streams ∷ [] in
    ends_behind told first mid last earlier old middle new later same (task_files paths) read texts t.are
    (task, t.spelled) (file_of role.Report report) more why (ends texts)
