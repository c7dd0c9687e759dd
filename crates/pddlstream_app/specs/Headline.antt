-- What a printed plan and a printed `no plan` mean, in the words of planning: the headline of `run`.
use Rattle.std.specs.Prelude.{◌≡◌, ℕ, List, map, Option, true}
use Rattle.std.specs.Io.KnownBytes.{Appends}
use Rattle.io_world.specs.FileMap.{FileMap}
use Rattle.task_model.specs.Plans.{IsLeastCost, IsSolvable, IsValid}
use Rattle.task_model.specs.declared.task.GroundAction.{GroundAction}
use Rattle.transcript_model.specs.Calls.{call_of_step}
use Rattle.transcript_model.specs.Legal.{IsClosed}
use Rattle.transcript_model.specs.Outcomes.{AreOrigins}
use Rattle.transcript_model.specs.Transcript.{known_of, names_of}
use Rattle.transcript_model.specs.declared.entry.Call.{Call}
use Rattle.transcript_model.specs.declared.outcome.Origin.{Origin}
use Rattle.transcript_model.specs.declared.outcome.Outcome.TheVariants as outcome
use Rattle.command_files.specs.Outside.{Written}
use Rattle.run_command.specs.Runs.{ProgramRun, shown_text}

-- The sink took all that is shown of a run with this plan: its report, or the line of `generate`. The run's transcript
-- is legal; over what its answers certify and what the problem says at first the steps are executable, one after
-- another, up to the goal; the printed calls are these steps and the printed cost is what they cost; and each
-- generated object among them comes from the answer that is named. Where the cheapest plan was asked for, no plan over
-- what is known costs less.
pub record PrintsPlan (words : List (List ℕ)) (told : Option FileMap) (written : Written) : Type 0 where
  pub run : ProgramRun words told
  pub steps : List GroundAction
  pub calls : List Call
  pub cost : ℕ
  pub from : List Origin
  pub shown : calls ≡ map (call_of_step run.task (names_of run.task run.entries)) steps
  pub valid : IsValid run.task (known_of run.task run.entries) steps cost
  pub origins : AreOrigins run.head.version run.entries calls from
  pub least : run.head.optimal ≡ true → IsLeastCost run.task (known_of run.task run.entries) cost
  pub took : Appends written.before written.after
      (shown_text run.work run.task run.head run.entries (outcome.Plan calls cost from))

-- The sink took all that is shown of a run with `no plan`. In its transcript no request waits and each instance that
-- is reachable has finished; and over what is known then no plan exists.
pub record PrintsNoPlan (words : List (List ℕ)) (told : Option FileMap) (written : Written) : Type 0 where
  pub run : ProgramRun words told
  pub closed : IsClosed run.head.version run.task run.entries
  pub unsolvable : ¬ (IsSolvable run.task (known_of run.task run.entries))
  pub took : Appends written.before written.after (shown_text run.work run.task run.head run.entries outcome.NoPlan)
