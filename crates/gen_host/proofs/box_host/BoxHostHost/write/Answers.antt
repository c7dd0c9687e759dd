use Rattle.gen_host.proofs.CallsLemmas.{calls_member}
use Rattle.gen_host.proofs.box_host.BoxHostHost.write.Goals as goal

pub returns-clause-calls : goal.returns-clause-calls
returns-clause-calls g c =
    calls_member _ _ _ c.args.child _ _ c.args.self.now.members.items _ _ _ c.args.self.now.count c.requires.number c.index_mut.ensures.value c.send.ensures.calls
