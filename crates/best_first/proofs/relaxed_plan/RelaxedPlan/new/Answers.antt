use Rattle.std.proofs.Common.{sym, subst}
use Rattle.grounder.specs.Candidates.{AreCandidates}
use Rattle.best_first.proofs.relaxed_plan.RelaxedPlan.new.Goals as goal

pub new-requires-clause-candidates : goal.new-requires-clause-candidates
new-requires-clause-candidates g c =
    subst (AreCandidates c.args.task.now (g.L.Look.known c.args.look.now)) (sym c.candidates.ensures) c.requires.finds.candidates
