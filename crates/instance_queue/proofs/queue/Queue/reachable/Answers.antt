use Rattle.std.proofs.Common.{sym}
use Rattle.instance_search.proofs.ReadableLemmas.{fit_readable_stream}
use Rattle.instance_queue.proofs.queue.Queue.reachable.Goals as goal

pub is_reachable-requires : goal.is_reachable-requires
is_reachable-requires c =
    fit_readable_stream c.args.task.now c.requires c.args.instance.now.stream c.in-Some.stream.now (sym c.in-Some.ensures)
