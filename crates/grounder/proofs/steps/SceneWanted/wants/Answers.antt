use Rattle.plan_check.proofs.ReadableLemmas.{readable_action}
use Rattle.grounder.proofs.steps.SceneWanted.wants.Goals as goal

pub holds_once-requires-clause-readable : goal.holds_once-requires-clause-readable
holds_once-requires-clause-readable g c =
    (readable_action c.args.self.now.task.now.domain c.requires.0.domain c.args.self.now.action.now c.requires.1).condition
