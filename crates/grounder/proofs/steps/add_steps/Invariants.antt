use Rattle.std.proofs.Common.{◌≡◌, ◌++◌, map, take}
use Rattle.grounder.proofs.ListingLemmas.{step_with}
use Rattle.grounder.proofs.steps.add_steps.Given as goal

-- the steps with the arguments that were passed stand behind the old ones
abbrev pub invariant-loop-args : goal.invariant-loop-args
invariant-loop-args g l =
    l.steps.items ≡ l.initial.steps.items ++ map (step_with l.scene.number) (take l.args-index l.args-items)
