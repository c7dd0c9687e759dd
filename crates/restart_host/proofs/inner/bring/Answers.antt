use Rattle.std.proofs.Common.{map, string_bytes, Result, Err, subst, sym}
use Rattle.io_world.specs.declared.host.HostFault.{HostFault}
use Rattle.restart_host.specs.Steps.{IsBringing, IsReviving}
use Rattle.restart_host.specs.Tries.{seen_by_host}
use Rattle.restart_host.proofs.KeepsLemmas.{brings_again, brings_dead, brings_not, brings_sent}
use Rattle.restart_host.proofs.TriedLemmas.{tried_again, tried_done, tried_so, tried_spent}
use Rattle.restart_host.proofs.TriesLemmas.{called_as}
use Rattle.restart_host.proofs.inner.bring.Goals as goal

pub returns-then-not-kept-clause-tried : goal.returns-then-not-kept-clause-tried
returns-then-not-kept-clause-tried g c =
    tried_so c.args.child (map string_bytes c.args.kept.now.words.items) g.H.Host.last c.args.left.now
    c.revive.new.left _ _ c.revive.result _ _
    (λ events revives asked is.
    brings_dead c.args.child (map string_bytes c.args.kept.now.words.items) asked c.args.bytes.now c.args.kept.now.life
    c.revive.new.life c.revive.result events c.if-not-kept.true
    (record {
      alive = c.revive.ensures.up.0;
      held = c.revive.ensures.empty.0;
      due = c.revive.ensures.empty.1;
    })
    (subst (λ bs. IsReviving c.args.child (map string_bytes c.args.kept.now.words.items) bs c.revive.result events)
    is revives))
    (rw (c.deref-then-not-kept.ensures.value, c.deref.ensures.value) at c.revive.ensures.tried)

pub returns-in-Ok-clause-tried : goal.returns-in-Ok-clause-tried
returns-in-Ok-clause-tried g c =
    tried_done c.args.child (map string_bytes c.args.kept.now.words.items) g.H.Host.last c.args.left.now _ _ tt _
    (called_as c.args.child (map string_bytes c.args.kept.now.words.items) g.H.Host.last _ _ _ _ _
    (λ events sends asked is. brings_sent c.args.child asked c.args.bytes.now c.args.kept.now.life events c.if-not-kept.false sends)
    (c.in-Ok.ensures.called (map string_bytes c.args.kept.now.words.items)))

pub returns-in-Ok-spend-clause-tried : goal.returns-in-Ok-spend-clause-tried
returns-in-Ok-spend-clause-tried g c =
    tried_again c.args.child (map string_bytes c.args.kept.now.words.items) g.H.Host.last c.args.left.now
    c.spend.new.left
    c.revive-in-Ok-spend.new.left _ (seen_by_host g.H.Host.running g.H.Host.faults g.H.Host.log c.send.new.host) _
    c.in-Err.fault c.revive-in-Ok-spend.result _ _ _
    (λ xs ys sends revives asked is.
    brings_again c.args.child (map string_bytes c.args.kept.now.words.items) asked c.args.bytes.now c.args.kept.now.life
    c.revive-in-Ok-spend.new.life c.in-Err.fault c.revive-in-Ok-spend.result xs ys c.in-Ok-spend.ensures.0
    (record {
      alive = c.revive-in-Ok-spend.ensures.up.0;
      held = c.revive-in-Ok-spend.ensures.empty.0;
      due = c.revive-in-Ok-spend.ensures.empty.1;
    })
    sends
    (subst (λ bs. IsReviving c.args.child (map string_bytes c.args.kept.now.words.items) bs c.revive-in-Ok-spend.result ys)
    is revives))
    (c.in-Err.ensures.called (map string_bytes c.args.kept.now.words.items)) c.in-Ok-spend.ensures
    (rw (c.deref-in-Ok-spend.ensures.value, c.deref-in-Ok-spend-2.ensures.value) at c.revive-in-Ok-spend.ensures.tried)

pub returns-in-Err-spend-clause-tried : goal.returns-in-Err-spend-clause-tried
returns-in-Err-spend-clause-tried g c =
    tried_spent c.args.child (map string_bytes c.args.kept.now.words.items) g.H.Host.last c.args.left.now
    c.spend.new.left _ _ c.in-Err.fault
    c.in-Err-spend.refused _
    (called_as c.args.child (map string_bytes c.args.kept.now.words.items) g.H.Host.last _ _ _ _ _
    (λ events sends asked is.
    subst (λ f. IsBringing c.args.child asked c.args.bytes.now c.args.kept.now.life c.fall.new.self
    (let r : Result (Unit {0}) HostFault = Err f in r) events) (sym c.in-Err-spend.ensures.0)
    (brings_not c.args.child asked c.args.bytes.now c.args.kept.now.life c.fall.new.self c.in-Err.fault events
    (record { alive = c.fall.ensures.alive; held = c.fall.ensures.held; due = c.fall.ensures.due }) sends))
    (c.in-Err.ensures.called (map string_bytes c.args.kept.now.words.items)))
    c.in-Err-spend.ensures
