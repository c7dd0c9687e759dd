use Rattle.std.proofs.Common.{◌≡◌, ◌++◌, map, take}
use Rattle.instance_search.specs.Found.{instance_at}
use Rattle.instance_search.proofs.search.add_instances.Given as goal

-- the instances with the inputs that were passed stand behind the old ones
abbrev pub invariant-loop-inputs : goal.invariant-loop-inputs
invariant-loop-inputs g l =
    l.instances.items
    ≡ l.initial.instances.items ++ map (instance_at l.search.place) (take l.inputs-index l.inputs-items)
