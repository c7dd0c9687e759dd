use Rattle.std.proofs.Common.{◌≡◌, true}
use Rattle.gen_host.specs.Members.{all_idle}
use Rattle.world_tests.proofs.programs.children_of_a_host_are_kept_apart.OwnLists.{own-1}
use Rattle.world_tests.proofs.programs.children_of_a_host_are_kept_apart.Given as goal

abbrev pub invariant-loop : goal.invariant-loop
invariant-loop g l = all_idle (λ b. (own-1.entry b.vtable).1.running b.value) l.members.items ≡ true
