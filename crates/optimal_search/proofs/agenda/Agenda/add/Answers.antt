use Rattle.std.proofs.Common.{subst, sym, arith}
use Rattle.std.specs.BinaryHeap.{heap_items}
use Rattle.optimal_search.proofs.AgendaLemmas.{queued_added}
use Rattle.optimal_search.specs.Agenda.{AreQueued}
use Rattle.optimal_search.proofs.agenda.Agenda.add.Goals as goal

pub returns-clause-agenda : goal.returns-clause-agenda
returns-clause-agenda c =
    let old = c.args.self.now in
    let now = heap_items c.push-2.new.self in
    subst (λ ns. AreQueued ns now) (sym c.in_ok-push.ensures.items)
    (queued_added old.nodes.items (heap_items old.queue) now c.args.node _ c.requires.agenda
    c.in_ok-push-2.ensures.permutation (c.in_ok-push-2.ensures.heap_order c.requires.agenda.heap)
    (omega (arith, c.len-place.ensures, old.nodes.ok.0)) (omega arith))
