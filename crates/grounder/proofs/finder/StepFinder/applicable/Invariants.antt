use Rattle.grounder.proofs.ListingLemmas.{AreListed}
use Rattle.grounder.proofs.finder.StepFinder.applicable.Given as goal

-- the steps of the actions that were passed are there
abbrev pub invariant-loop-number : goal.invariant-loop-number
invariant-loop-number g l = AreListed l.task (g.L.Look.known l.look) l.state l.number l.steps.items
