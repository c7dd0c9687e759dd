use Rattle.std.proofs.Common.{◌∙◌, ap, arith}
use Rattle.std.specs.List.{list_all}
use Rattle.formula_eval.proofs.ReadableLemmas.{fit_readable}
use Rattle.formula_eval.specs.Readable.{is_readable}
use Rattle.grounder.proofs.PartsLemmas.{readable_tops}
use Rattle.lemmas.proofs.ListTests.{all_at, get_some}
use Rattle.best_first.proofs.estimate.GoalCountEstimate.estimate.Goals as goal

pub fluent_atom-requires-clause-readable : goal.fluent_atom-requires-clause-readable
fluent_atom-requires-clause-readable g c =
    let task = c.args.task.now in
    let parts = c.tops-part-items.result.now in
    let readable = fit_readable task.domain c.requires.domain _ 0 (omega arith) task.problem.goal c.requires.problem.goal in
    all_at (is_readable task.domain) parts c.loop-part.part-index c.part-item.result
    (ap (list_all (is_readable task.domain)) c.tops-part-items.ensures ∙ readable_tops task.domain task.problem.goal readable)
    (get_some parts c.loop-part.part-index c.part-item.result c.loop-part-test.true c.part-item.is)
