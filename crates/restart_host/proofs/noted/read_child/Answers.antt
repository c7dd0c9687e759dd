use Rattle.std.proofs.Common.{map, refl, string_bytes}
use Rattle.restart_host.proofs.ReadLemmas.{alive_due, reads_given, tried_given}
use Rattle.restart_host.proofs.noted.read_child.Goals as goal

pub returns-in-Ok-clause-tried : goal.returns-in-Ok-clause-tried
returns-in-Ok-clause-tried g c =
    tried_given c.args.child (map string_bytes c.args.kept.now.words.items) g.H.Host.last c.args.left.now c.fetch.new.left _ _
    c.in-Ok.field-0 c.give.result _ _ c.give.ensures.quiet
    (λ events fetching whole.
    reads_given c.args.child c.args.kept.now c.fetch.new.kept c.give.new.kept c.give.result c.give.new.room events
    (rw c.in-Ok.ensures.kept.2 refl) (alive_due c.fetch.new.kept.life c.in-Ok.ensures.due) c.give.ensures.hands
    c.give.ensures.quiet fetching)
    c.in-Ok.ensures.tried
