use Rattle.command_line.specs.Apps.{deorder_app}
use Rattle.command_line.proofs.replay.deorder_command.Goals as goal

pub returns : goal.returns
unfolding deorder_app
returns c = c.report_command.ensures
