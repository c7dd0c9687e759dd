use Rattle.std.proofs.Common.{◌∙◌, ap}
use Rattle.std.specs.List.{list_all}
use Rattle.formula_eval.specs.Readable.{is_readable}
use Rattle.grounder.proofs.PartsLemmas.{readable_tops}
use Rattle.lemmas.proofs.ListTests.{all_at, get_some}
use Rattle.relaxed_task.proofs.steps.put_needs.Goals as goal

pub part_literal-requires-clause-readable : goal.part_literal-requires-clause-readable
part_literal-requires-clause-readable g c =
    let domain = c.args.scene.now.task.now.domain in
    let parts = c.tops-part-items.result.now in
    all_at (is_readable domain) parts c.loop-part.part-index c.part-item.result
    (ap (list_all (is_readable domain)) c.tops-part-items.ensures ∙ readable_tops domain c.args.condition.now c.requires.readable)
    (get_some parts c.loop-part.part-index c.part-item.result c.loop-part-test.true c.part-item.is)
