use Rattle.std.proofs.Common.{◌∷◌, subst}
use Rattle.io_world.proofs.TalksLemmas.{extends_more}
use Rattle.round_run.proofs.StoppedLemmas.{handed}
use Rattle.command_files.proofs.InputsLemmas.{ends_at_report}
use Rattle.command_files.specs.Files.{HasBytes, file_of}
use Rattle.command_files.specs.Paths.{held_files}
use Rattle.command_files.specs.declared.stop.FileRole.TheVariants as role
use Rattle.command_files.proofs.texts.read_reported.Goals as goal

pub returns-in_err-task-clause-stop : goal.returns-in_err-task-clause-stop
returns-in_err-task-clause-stop g c =
    handed c.from_residual.result c.in_err-task.field-0.0 _ c.from_residual.ensures.1
    (λ more. c.in_err-task.ensures.stop (file_of role.Report c.args.report.now ∷ more))

pub returns-in_err-bytes-clause-stop : goal.returns-in_err-bytes-clause-stop
returns-in_err-bytes-clause-stop g c =
    handed c.from_residual-in_err-bytes.result c.in_err-bytes.field-0.0 _ c.from_residual-in_err-bytes.ensures.1
    (λ more. ends_at_report (held_files c.args.paths.now) c.args.report.now more c.in_ok-task.task
    (g.F.Files.told c.args.files.now) _ c.read_task.ensures.same _ _ _ c.read_task.ensures.later _ _ _
    c.in_ok-task.ensures.task c.in_ok-task.ensures.asked c.in_err-bytes.field-0.0 c.in_err-bytes.ensures.stop)

pub returns-clause-read : goal.returns-clause-read
returns-clause-read g c = record {
  task = c.in_ok-task.ensures.task;
  fit = c.in_ok-task.ensures.fit;
  bytes = subst (λ told. HasBytes told (file_of role.Report c.args.report.now) c.in_ok-bytes.bytes.items)
      c.read_task.ensures.same c.in_ok-bytes.ensures.bytes;
}

pub returns-clause-asked : goal.returns-clause-asked
returns-clause-asked g c = extends_more _ _ _ _ _ c.in_ok-task.ensures.asked c.in_ok-bytes.ensures.asked
