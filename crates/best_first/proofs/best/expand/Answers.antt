use Rattle.std.specs.BinaryHeap.{heap_items}
use Rattle.lemmas.proofs.Ascending.{contains_here}
use Rattle.best_first.specs.Frontiers.{in_heap}
use Rattle.best_first.proofs.best.expand.Goals as goal

pub get-requires : goal.get-requires
get-requires g c =
    c.requires.frontier.places (in_heap c.args.from) (contains_here (in_heap c.args.from) (heap_items c.args.frontier.now.queue))
