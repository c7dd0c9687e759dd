use Rattle.std.proofs.Common.{map, string_bytes}
use Rattle.restart_host.proofs.KeepsLemmas.{fetches_dead, fetches_none}
use Rattle.restart_host.proofs.TriedLemmas.{tried_done, tried_so}
use Rattle.restart_host.proofs.TriesLemmas.{called_none}
use Rattle.restart_host.proofs.inner.wake.Goals as goal

pub returns-then-kept-clause-tried : goal.returns-then-kept-clause-tried
returns-then-kept-clause-tried g c =
    tried_done c.args.child (map string_bytes c.args.kept.now.words.items) g.H.Host.last c.args.left.now _ _ tt _
    (called_none c.args.child (map string_bytes c.args.kept.now.words.items) g.H.Host.last _ _
    (fetches_none c.args.child c.args.kept.now.asked.items c.args.kept.now.life))

pub returns-clause-tried : goal.returns-clause-tried
returns-clause-tried g c =
    tried_so c.args.child (map string_bytes c.args.kept.now.words.items) g.H.Host.last c.args.left.now
    c.revive.new.left _ _ c.revive.result _ _
    (λ events revives.
    fetches_dead c.args.child (map string_bytes c.args.kept.now.words.items) c.args.kept.now.asked.items c.args.kept.now.life
    c.revive.new.life c.revive.result events c.if-kept.false c.requires.due
    (record {
      alive = c.revive.ensures.up.0;
      held = c.revive.ensures.empty.0;
      due = c.revive.ensures.empty.1;
    })
    revives)
    (rw (c.deref.ensures.value, c.deref-2.ensures.value) at c.revive.ensures.tried)
