use Rattle.gen_host.proofs.MembersIdleLemmas.{idle_at}
use Rattle.gen_host.proofs.box_host.BoxHost.new.Goals as goal

pub returns-clause-idle : goal.returns-clause-idle
returns-clause-idle g c = λ all k. idle_at _ c.args.members.items all k
