-- How a run ends whose command answers.
use Rattle.std.proofs.Common.{◌≡◌, ℕ, arith, List, [], ◌∷◌, ◌++◌, refl, sym, subst, ◌∙◌, inl, inr, Option, Some, Result, Ok, Err, IfOk, IfErr}
use Rattle.io_world.specs.FileMap.{AskedPath, FileMap}
use Rattle.io_world.specs.Faults.{Extends, HasCause, last_count}
use Rattle.io_world.specs.Talks.{Event, Talk}
use Rattle.round_run.proofs.CallsRunLemmas.{stops_none}
use Rattle.round_run.proofs.StoppedLemmas.{same_err}
use Rattle.round_run.specs.declared.fault.RunFault.TheVariants as fault
use Rattle.report_text.proofs.PrintsLemmas.{appends_none}
use Rattle.command_line.specs.Words.{Command, PlayWords, ReplayWords, TaskFiles, command_of, deorder, play, replay}
use Rattle.grid_text.specs.Files.{IsGridOf}
use Rattle.grid_text.specs.Grids.{GridFile}
use Rattle.pddlstream_app.proofs.AskedLemmas.{asked_reading}
use Rattle.pddlstream_app.proofs.NoInputLemmas.{command_input}
use Rattle.pddlstream_app.proofs.RunsLemmas.{stopped_early, stopped_reading}
use Rattle.pddlstream_app.specs.AnswerOf.{HasAnswer, IsCommandAnswer, IsVerdictFor, SaysVerdict}
use Rattle.command_files.specs.Inputs.{AreReported, AsksAllOf, EndsAtFile, reads, task_files}
use Rattle.pddlstream_app.specs.Answering.{IsAnswerTold, IsUnmade}
use Rattle.pddlstream_app.specs.Asked.{AsksAll, AsksBefore}
use Rattle.command_files.specs.Files.{FileWanted, HoldsFile, file_of}
use Rattle.pddlstream_app.specs.NoInput.{HasNoInput, ReadsNothing}
use Rattle.command_files.specs.Outside.{FilesSeen, Outside, Written, resting}
use Rattle.pddlstream_app.specs.Plans.{SaysOfReport, SaysOrder, SaysPlay}
use Rattle.pddlstream_app.specs.Runs.{IsCompleted, IsStopped}
use Rattle.command_files.specs.Stop.{IsOfInput}
use Rattle.command_files.specs.declared.status.Status.{Status}
use Rattle.command_files.specs.declared.stop.FileRole.TheVariants as role
use Rattle.command_files.specs.declared.stop.Stop.{Stop}
use Rattle.command_files.specs.declared.stop.Stop.TheVariants as stop
use Rattle.command_files.specs.declared.texts.Reported.{Reported}

-- ---- a task and a report

-- the same paths
pub reported_in : {told : Option FileMap} {paths others : TaskFiles} {path other : List ℕ} {r : Reported} → paths ≡ others
    → path ≡ other → AreReported told paths path r → AreReported told others other r
reported_in {told} {paths} {others} {path} {other} {r} same is read =
    subst (λ p. AreReported told others p r) is (subst (λ f. AreReported told f path r) same read)

pub asked_reported : (old new : Option (List AskedPath)) {paths others : TaskFiles} {path other : List ℕ} → paths ≡ others
    → path ≡ other → Extends old new (reads (task_files paths ++ file_of role.Report path ∷ []))
    → Extends old new (reads (task_files others ++ file_of role.Report other ∷ []))
asked_reported old new {paths} {others} {path} {other} same is read =
    subst (λ p. Extends old new (reads (task_files others ++ file_of role.Report p ∷ []))) is
    (subst (λ f. Extends old new (reads (task_files f ++ file_of role.Report path ∷ []))) same read)

pub ends_reported : {files : FilesSeen} {why : Stop} (more : List FileWanted) {paths others : TaskFiles} {path other : List ℕ}
    → paths ≡ others → path ≡ other → EndsAtFile files (task_files paths ++ file_of role.Report path ∷ more) why
    → EndsAtFile files (task_files others ++ file_of role.Report other ∷ more) why
ends_reported {files} {why} more {paths} {others} {path} {other} same is ends =
    subst (λ p. EndsAtFile files (task_files others ++ file_of role.Report p ∷ more) why) is
    (subst (λ f. EndsAtFile files (task_files f ++ file_of role.Report path ∷ more) why) same ends)

-- a verdict on the report is an answer
pub judged : (w : ReplayWords) (told : Option FileMap) (r : Reported) → AreReported told w.files w.report r
    → (status : Status) (text : List ℕ) → SaysVerdict (IsVerdictFor w.optimal w.states r.task r.bytes.items) status text
    → IsCommandAnswer (replay w) told status text
judged w told r read status text said =
    let t = read.task in
    record {
      texts = t.domain ∷ t.problem ∷ t.streams ∷ r.bytes.items ∷ [];
      are = (t.are.0, (t.are.1.0, (t.are.1.1.0, (read.bytes, tt))));
      so = (r.task, t.spelled, read.fit, said);
    }

-- so is what is said of a right report's plan, or of a wrong report
pub deordered : (w : ReplayWords) (told : Option FileMap) (r : Reported) → AreReported told w.files w.report r
    → (status : Status) (text : List ℕ) → SaysOfReport w.states r.task r.bytes.items (SaysOrder r.task) status text
    → IsCommandAnswer (deorder w) told status text
deordered w told r read status text said =
    let t = read.task in
    record {
      texts = t.domain ∷ t.problem ∷ t.streams ∷ r.bytes.items ∷ [];
      are = (t.are.0, (t.are.1.0, (t.are.1.1.0, (read.bytes, tt))));
      so = (r.task, t.spelled, read.fit, said);
    }

pub acted_out : (w : PlayWords) (told : Option FileMap) (r : Reported) → AreReported told w.files w.report r → (grid : GridFile)
    → HoldsFile told (file_of role.Grid w.grid) (λ bytes. IsGridOf bytes grid)
    → (status : Status) (text : List ℕ) → SaysOfReport w.states r.task r.bytes.items (SaysPlay grid) status text
    → IsCommandAnswer (play w) told status text
acted_out w told r read grid holds status text said =
    let t = read.task in
    record {
      texts = t.domain ∷ t.problem ∷ t.streams ∷ r.bytes.items ∷ holds.bytes ∷ [];
      are = (t.are.0, (t.are.1.0, (t.are.1.1.0, (read.bytes, (holds.has, tt)))));
      so = (r.task, t.spelled, read.fit, (grid, holds.so, said));
    }

-- ---- an answer that was told, or not

-- it wasn't made, for a cause that is of the input
unmade_input : (c : Command) (files : FilesSeen) (why : Stop) → IsUnmade c files why → IsOfInput why
unmade_input c files why (inl n) = command_input c files why n
unmade_input c files why (inr m) = subst IsOfInput (sym m.0) tt

module _ (words : List (List ℕ)) (c : Command) (meant : command_of words ≡ Some c) (files : FilesSeen)
    (spoken : ℕ → Option Talk) (log : Option (List Event)) (written : Written) where
  abbrev outside : Outside
  outside = resting files spoken log

  answers : (status : Status) (text : List ℕ) → IsCommandAnswer c files.told status text → HasAnswer words outside status text
  answers status text a = record { command = c; meant = meant; answer = a; untouched = refl }

  no_input : (why : Stop) → ReadsNothing c files why → HasNoInput words files why
  no_input why n = record { command = c; meant = meant; cause = n }

  asks : AsksAllOf c files → AsksAll words files
  asks all = record { command = c; meant = meant; asks = all }

  -- it was told whole
  pub answer_completed : (Same : Type 0) (r : Result Status Stop) → IsAnswerTold c files written r
      → IfOk r (IsCompleted words outside Same written)
  answer_completed Same (Ok status) a =
      record { text = a.text; has = inr (answers status a.text a.answer); unneeded = tt; took = a.took }
  answer_completed Same (Err why) a = tt

  -- it was not told, or in part
  pub answer_stopped : (r : Result Status Stop) → IsAnswerTold c files written r → IfErr r (IsStopped words outside written)
  answer_stopped (Ok status) a = tt
  answer_stopped (Err why) (inl (inl n, nothing)) =
      subst (λ after. IsStopped words outside (record { before = written.before; after = after }) why) (sym nothing)
      (stopped_reading words outside written.before why (no_input why n) (stops_none log))
  answer_stopped (Err why) (inl (inr m, nothing)) =
      subst (IsStopped words outside written) (sym m.0)
      (subst (λ after. IsStopped words outside (record { before = written.before; after = after }) (stop.Run fault.Memory)) (sym nothing)
      (stopped_early words outside (record { before = written.before; after = written.before }) (appends_none written.before)
      (stops_none log)))
  answer_stopped (Err why) (inr (failed, a)) = subst (IsStopped words outside written) (sym failed) (record {
    text = a.text;
    was = inl (a.status, inr (inl (answers a.status a.text a.answer)));
    count = a.count;
    whole = omega arith;
    less = a.less;
    took = a.took;
  })

  -- the files were asked for, or those up to one at which the run ends
  pub answer_asked : (r : Result Status Stop) → IsAnswerTold c files written r → IfOk r (λ status. AsksAll words files)
  answer_asked (Ok status) a = asks a.asks
  answer_asked (Err why) a = tt

  pub answer_asked_before : (r : Result Status Stop) → IsAnswerTold c files written r → IfErr r (AsksBefore words files)
  answer_asked_before (Ok status) a = tt
  answer_asked_before (Err why) (inl (inl n, nothing)) = asked_reading words files why (no_input why n)
  answer_asked_before (Err why) (inl (inr m, nothing)) = subst (AsksBefore words files) (sym m.0) (inr (inl (asks m.1)))
  answer_asked_before (Err why) (inr (failed, a)) = subst (AsksBefore words files) (sym failed) (asks a.asks)

-- neither what the files say, nor want of memory, nor a fault of the sink is a fault of the generator
pub answer_ungenerated : (c : Command) (files : FilesSeen) (written : Written) (r : Result Status Stop)
    → IsAnswerTold c files written r → (last count : ℕ) → HasCause (stop.Run fault.Generator) last count count r
answer_ungenerated c files written r told last count = record { later = omega arith; cause = λ failed. absurd (of r told failed) }
  where
    of : (r : Result Status Stop) → IsAnswerTold c files written r → r ≡ Err (stop.Run fault.Generator) → ⊥
    of (Ok status) told e = absurd (cc)
    of (Err why) (inl u) e = subst IsOfInput (same_err e) (unmade_input c files why u.0)
    of (Err why) (inr x) e = let is = same_err e in absurd (cc)

-- an answer that wasn't made is no fault of the sink
pub unmade_unfailed : {T : Type 0} (c : Command) (files : FilesSeen) (why : Stop) → IsUnmade c files why → (r : Result T Stop)
    → r ≡ Err why → (count : ℕ) → HasCause (stop.Run fault.Write) last_count count count r
unmade_unfailed c files why u r is count = record {
  later = omega arith;
  cause = λ failed. absurd (subst IsOfInput (same_err (sym is ∙ failed)) (unmade_input c files why u));
}
