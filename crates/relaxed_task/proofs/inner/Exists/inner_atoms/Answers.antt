use Rattle.std.proofs.Common.{◌∙◌, ap}
use Rattle.std.specs.List.{list_all}
use Rattle.formula_eval.specs.Readable.{is_readable}
use Rattle.grounder.proofs.PartsLemmas.{readable_tops}
use Rattle.lemmas.proofs.ListTests.{all_at, get_some}
use Rattle.relaxed_task.proofs.inner.Exists.inner_atoms.Goals as goal

pub inner_atom-requires-clause-readable : goal.inner_atom-requires-clause-readable
inner_atom-requires-clause-readable c =
    let domain = c.args.domain.now in
    let parts = c.tops-part-items.result.now in
    all_at (is_readable domain) parts c.loop-part.part-index c.part-item.result
    (ap (list_all (is_readable domain)) c.tops-part-items.ensures ∙ readable_tops domain c.args.self.now.body.now c.requires.readable)
    (get_some parts c.loop-part.part-index c.part-item.result c.loop-part-test.true c.part-item.is)
