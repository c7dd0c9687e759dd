use Rattle.std.proofs.Common.{refl}
use Rattle.io_world.proofs.LogsLemmas.{noted}
use Rattle.io_world.proofs.call_log.CallLog.stop_kept.Goals as goal

pub returns-clause-noted : goal.returns-clause-noted
returns-clause-noted c = noted _ _ _ _ c.self.view_is c.push_reserved.ensures.items refl
