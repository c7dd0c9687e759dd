use Rattle.std.proofs.Common.{◌≡◌, true, take}
use Rattle.std.specs.List.{sum_by}
use Rattle.io_world.specs.Faults.{last_count}
use Rattle.gen_host.specs.Members.{all_below}
use Rattle.gen_host.proofs.box_host.BoxHostHost.faults.Given as goal

abbrev pub invariant-loop-member : goal.invariant-loop-member
invariant-loop-member g l = record {
  below : all_below last_count (λ b. (goal.Generator-dyn g (b.vtable, b.value)).faults b.value) (take l.member-index l.self.members.items)
      ≡ true;
  added : l.sum ≡ sum_by (λ b. (goal.Generator-dyn g (b.vtable, b.value)).faults b.value) (take l.member-index l.self.members.items);
}
