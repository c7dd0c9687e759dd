use Rattle.std.proofs.lemmas.Result.{err_from_is_err_and}
use Rattle.sexpr_text.specs.Trees.{tree}
use Rattle.task_reader.proofs.RefusalsLemmas.{no_domain}
use Rattle.task_reader.proofs.FitTask.{domain_fit}
use Rattle.task_reader.proofs.texts.domain_in.Goals as goal

pub returns-in_err-domain-clause-refused : goal.returns-in_err-domain-clause-refused
returns-in_err-domain-clause-refused c =
    let p = err_from_is_err_and c.from_residual-in_err-domain.result c.from_residual-in_err-domain.ensures.1 in
    rw (p.1, p.2) (no_domain c.args.bytes.now (tree c.in_ok-tree.tree) c.in_ok-tree.ensures.exact c.in_err-domain.field-0.0
    c.in_err-domain.ensures.reads)

pub returns-clause-fit : goal.returns-clause-fit
returns-clause-fit c =
    λ short. domain_fit c.args.bytes.now c.in_ok-domain.domain short
    (record { tree = tree c.in_ok-tree.tree; spelled = c.in_ok-tree.ensures.exact; holds = c.in_ok-domain.ensures.reads })
