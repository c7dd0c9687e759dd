-- Laws by which the premises of the clause `complete` of the program's call are met in an example. Each is a clause of a
-- public function of `laws.rt`.
use Rattle.std.specs.Prelude.{◌<◌}
use Rattle.io_world.specs.Faults.{Rose, last_count}
use Rattle.turn_run.specs.Reports.{IsRun}
use Rattle.pddlstream_app.specs.Complete.{AreGivenAnswers, GoesWell}
use Rattle.run_command.specs.Runs.{ProgramRun}
use Rattle.round_run.specs.Dialogue.{Dialogue, workers_in}
use Rattle.table_runs.specs.Asking.{AnsweredBy}
use Rattle.transcript_model.specs.Legal.{asks_of}
use Rattle.transcript_model.specs.Tables.{AgreesWith}
use Rattle.transcript_model.specs.declared.outcome.Outcome.TheVariants as outcome
use Rattle.premise_laws.specs.Run.{cup_outside, cup_words}
use Rattle.witness_laws.specs.Fetch.{fetch_answers}
use Rattle.witness_laws.specs.Level.{cup_origins, cup_plan}

-- All goes well in the run of the first worked task: no count of faults rises, of the files, of a `SureHost` or of a
-- sink that never fails.
abbrev pub FirstRunGoesWell : Type 0
FirstRunGoesWell = GoesWell cup_words cup_outside (Rose last_count 0 0) (Rose last_count 0 0)

-- Its child answers by the task's table, over which each transcript stays within the limits of the words.
abbrev pub FirstTableIsGiven : Type 0
FirstTableIsGiven = AreGivenAnswers cup_words cup_outside fetch_answers

-- There is such a run. It has an outcome (`IsRun`), a plan of two steps; it asked something; what was said is its
-- dialogue, and by that the child that was asked answers by the table; and its transcript agrees with the table.
pub record HasFirstRun : Type 0 where
  pub run : ProgramRun cup_words cup_outside.files.told
  pub whole : IsRun run.task run.head run.entries (outcome.Plan cup_plan 2 cup_origins)
  pub asked : 0 < asks_of run.entries
  pub talks : Dialogue run.task run.head.version (workers_in run.head) run.entries cup_outside.spoken
  pub answered : AnsweredBy run.head.version run.task (workers_in run.head) fetch_answers run.entries cup_outside.spoken
  pub agrees : AgreesWith run.head.version run.task fetch_answers run.entries
