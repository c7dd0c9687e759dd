use Rattle.std.proofs.Common.{◌≡◌, true, length}
use Rattle.gen_host.specs.Members.{all_idle}
use Rattle.row_runs.proofs.hosts.run_row.Given as goal
use Rattle.row_runs.proofs.hosts.run_row.OwnLists.{own-1}

-- as many members as rounds, and none of them runs
abbrev pub invariant-loop : goal.invariant-loop
invariant-loop l = record {
  count : length l.members.items ≡ l.counter;
  idle : all_idle (λ b. (own-1.entry b.vtable).1.running b.value) l.members.items ≡ true;
}
