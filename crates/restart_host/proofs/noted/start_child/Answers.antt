use Rattle.std.proofs.Common.{◌≡◌, ap, false, map, string_bytes}
use Rattle.io_world.specs.Logs.{Calls}
use Rattle.restart_host.specs.Tries.{seen_by_host}
use Rattle.restart_host.proofs.TriedLemmas.{tried_before, tried_unheard}
use Rattle.restart_host.proofs.noted.start_child.Goals as goal

pub returns-in_default-start-clause-tried : goal.returns-in_default-start-clause-tried
returns-in_default-start-clause-tried g c =
    let lost : c.start.new.self.whole ≡ false = ap (λ (calls : Calls). calls.whole) c.in_default-start.ensures.err in
    tried_before c.args.child (map string_bytes c.args.words.items) g.H.Host.last c.args.left.now c.revive-answer.new.left _
    (seen_by_host g.H.Host.running g.H.Host.faults g.H.Host.log c.revive-answer.new.host) _ _ _ _ _
    (λ xs ys revives ending whole. absurd (cc (lost, whole)))
    (tried_unheard c.args.child (map string_bytes c.args.words.items) g.H.Host.last c.args.left.now c.revive-answer.new.left _ _
    c.revive-answer.result _ _ (λ events revives. revives) (rw c.deref.ensures.value at c.revive-answer.ensures.tried))
    (c.end.ensures.called (map string_bytes c.args.words.items))
