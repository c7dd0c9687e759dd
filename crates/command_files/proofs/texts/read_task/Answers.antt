use Rattle.command_files.specs.Paths.{held_files}
use Rattle.command_files.proofs.InputsLemmas.{fit_if_spelled}
use Rattle.command_files.proofs.texts.read_task.Goals as goal

pub returns-clause-fit : goal.returns-clause-fit
returns-clause-fit g c =
    fit_if_spelled (g.F.Files.told c.args.files.now) (held_files c.args.paths.now) c.read_spelled.result c.read_spelled.ensures.task
