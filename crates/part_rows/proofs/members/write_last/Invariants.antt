use Rattle.std.proofs.Common.{◌≡◌, true}
use Rattle.gen_host.specs.Members.{all_idle}
use Rattle.part_rows.proofs.members.write_last.OwnLists.{own-1}
use Rattle.part_rows.proofs.members.write_last.Given as goal

abbrev pub invariant-loop : goal.invariant-loop
invariant-loop l = all_idle (λ b. (own-1.entry b.vtable).1.running b.value) l.members.items ≡ true
