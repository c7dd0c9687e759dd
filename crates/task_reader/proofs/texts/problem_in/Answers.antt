use Rattle.sexpr_text.specs.Trees.{tree}
use Rattle.task_reader.proofs.FitTask.{problem_fit}
use Rattle.task_reader.proofs.texts.problem_in.Goals as goal

pub returns-clause-fit : goal.returns-clause-fit
returns-clause-fit c =
    λ over short. problem_fit c.args.domain.now c.args.bytes.now c.in_ok-problem.problem over short
    (record { tree = tree c.in_ok-tree.tree; spelled = c.in_ok-tree.ensures.exact; holds = c.in_ok-problem.ensures.reads })
