use Rattle.validate_app.proofs.OutcomesLemmas.{has_stopped}
use Rattle.validate_app.specs.Held.{held_paths}
use Rattle.validate_app.proofs.command.outcome_of.Goals as goal

pub returns-in-Ok-judge_files : goal.returns-in-Ok-judge_files
returns-in-Ok-judge_files g c = (held_paths c.in-Ok.paths, c.in-Ok.ensures.meant, c.in-Ok-judge_files.ensures.said)

pub returns-in-Err : goal.returns-in-Err
returns-in-Err g c =
    has_stopped _ _ (held_paths c.in-Ok.paths) c.in-Ok.ensures.meant c.in-Err.stop c.in-Err.ensures.stop
