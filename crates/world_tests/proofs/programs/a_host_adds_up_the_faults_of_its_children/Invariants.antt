use Rattle.std.proofs.Common.{◌≡◌, true}
use Rattle.gen_host.specs.Members.{all_idle}
use Rattle.world_tests.proofs.programs.a_host_adds_up_the_faults_of_its_children.OwnLists.{own-1}
use Rattle.world_tests.proofs.programs.a_host_adds_up_the_faults_of_its_children.Given as goal

abbrev pub invariant-loop : goal.invariant-loop
invariant-loop g l = all_idle (λ b. (own-1.entry b.vtable).1.running b.value) l.members.items ≡ true
