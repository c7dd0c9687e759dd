-- Laws of plans that are acted out on the grid. Each is the contract of a public function of `laws.rt`, and so is
-- proved.
use Rattle.std.specs.Prelude.{◌≡◌, ℕ, ◌≤◌, List, map}
use Rattle.grid_play.specs.Faults.{HasPlayFault, IsActedOut}
use Rattle.grid_play.specs.declared.play.Play.{Play}
use Rattle.grid_play.specs.declared.play.PlayVerdict.{PlayVerdict}
use Rattle.grid_play.specs.declared.play.PlayVerdict.TheVariants.{Safe}
use Rattle.grid_text.specs.Grids.{GridFile}
use Rattle.play_laws.specs.GridTasks.{grid_file_of, grid_task_of}
use Rattle.play_laws.specs.Problems.{AreTrueYields, IsGridProblem}
use Rattle.task_model.specs.Fit.{IsFit}
use Rattle.task_model.specs.Initial.{initial_state}
use Rattle.task_model.specs.Plans.{Executes}
use Rattle.task_model.specs.State.{Atoms}
use Rattle.task_model.specs.declared.task.GroundAction.{GroundAction}
use Rattle.task_model.specs.declared.task.Task.{Task}
use Rattle.transcript_model.specs.Calls.{call_of_step}
use Rattle.transcript_model.specs.Legal.{IsLegal}
use Rattle.transcript_model.specs.Outcomes.{IsTruePlan}
use Rattle.transcript_model.specs.Transcript.{known_of, names_of}
use Rattle.transcript_model.specs.declared.entry.Call.{Call}
use Rattle.transcript_model.specs.declared.entry.Entry.{Entry}
use Rattle.transcript_model.specs.declared.outcome.Origin.{Origin}

-- Steps that a legal transcript certifies, on a problem that tells the grid and with the grid's own answers, are acted
-- out on the grid without a fault. Nothing is asked of the goal, of the mode, or of what is said to end.
abbrev pub TruePlansAreSafe : Type 0
TruePlansAreSafe =
    (version : ℕ) (task : Task) (grid : GridFile) (entries : List Entry) (steps : List GroundAction) (end : Atoms)
    (cost : ℕ) → IsFit task → IsGridProblem task grid → IsLegal version task entries → AreTrueYields grid entries
    → Executes task (known_of task entries) (initial_state task) steps end cost
    → (v : PlayVerdict) → ¬ (HasPlayFault grid (map (call_of_step task (names_of task entries)) steps) v)

-- So the plan of a valid report, with the grid's own answers on such a problem, is acted out safely.
abbrev pub TrueReportsPlaySafely : Type 0
TrueReportsPlaySafely =
    (version : ℕ) (task : Task) (grid : GridFile) (entries : List Entry) (calls : List Call) (cost : ℕ)
    (from : List Origin) (play : Play) → IsFit task → IsGridProblem task grid → IsLegal version task entries
    → AreTrueYields grid entries → IsTruePlan version task entries calls cost from → IsActedOut grid calls play
    → play.verdict ≡ Safe

-- The tasks that are made for numbers are such problems of their grids.
abbrev pub NumbersAreGridProblems : Type 0
NumbersAreGridProblems =
    (n : ℕ) → 1 ≤ n → n ≤ 12 → IsGridProblem (grid_task_of n) (grid_file_of n)
