use Rattle.gen_host.proofs.MembersIdleLemmas.{idle_push}
use Rattle.gen_host.proofs.members.add_idle.Goals as goal

pub returns-clause-all : goal.returns-clause-all
returns-clause-all g c =
    rw c.in_ok-push.ensures.items (idle_push (λ b. (goal.Generator-dyn g (b.vtable, b.value)).running b.value) c.args.members.now.items
    c.args.member c.requires.all c.requires.idle)
