use Rattle.std.proofs.Common.{◌≡◌, refl, ap, map, length, ◌∙◌}
use Rattle.pools.specs.Pools.{workers_of}
use Rattle.session_core.proofs.SessionNewLemmas.{new_session, new_sound}
use Rattle.session_core.proofs.session.Session.new.Goals as goal

pub returns-clause-session : goal.returns-clause-session
returns-clause-session c =
    new_session c.args.task.now c.args.head.now _ c.in_ok-knowledge.knowledge (c.in_ok-knowledge.ensures c.args.head.now.version) c.requires.head
    (record { version = refl; calls = refl; pools = c.in_ok-pools.ensures ∙ ap (map workers_of) c.as_slice.ensures })
    c.new-2.ensures.items refl refl refl refl refl

pub invariant_of-result : goal.invariant_of-result
invariant_of-result c =
    let none : length c.in_ok-knowledge.knowledge.asked.items ≡ 0 = (c.in_ok-knowledge.ensures c.args.head.now.version).counted in
    new_sound _ _ _ c.new-2.ensures.items none c.empty.ensures.asks c.empty.ensures.instances c.empty.ensures.cells c.requires.head.calls
