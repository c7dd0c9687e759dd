use Rattle.std.proofs.Common.{inr}
use Rattle.pddlstream_app.proofs.command.close.Goals as goal

pub returns-in-Err-clause-closed : goal.returns-in-Err-clause-closed
returns-in-Err-clause-closed g c = inr c.tell-in-Err.ensures.told
