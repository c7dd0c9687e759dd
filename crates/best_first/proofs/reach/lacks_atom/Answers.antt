use Rattle.std.proofs.Common.{ap, ◌∙◌, sym, slice_get}
use Rattle.std.specs.List.{list_all}
use Rattle.formula_eval.specs.Readable.{is_readable}
use Rattle.grounder.proofs.PartsLemmas.{readable_tops}
use Rattle.grounder.specs.Parts.{fluent_in}
use Rattle.lemmas.proofs.ListTests.{all_at, get_some}
use Rattle.best_first.proofs.ReachLemmas.{atom_missed}
use Rattle.best_first.proofs.reach.lacks_atom.Goals as goal

pub fluent_atom-requires-clause-readable : goal.fluent_atom-requires-clause-readable
fluent_atom-requires-clause-readable g c =
    let domain = c.args.bounds.now.task.now.domain in
    let parts = c.tops-part-items.result.now in
    all_at (is_readable domain) parts c.loop-part.part-index c.part-item.result
    (ap (list_all (is_readable domain)) c.tops-part-items.ensures ∙ readable_tops domain c.args.condition.now c.requires.readable)
    (get_some parts c.loop-part.part-index c.part-item.result c.loop-part-test.true c.part-item.is)

pub returns-then-not-has : goal.returns-then-not-has
returns-then-not-has g c =
    let bounds = c.args.bounds.now in
    let domain = bounds.task.now.domain in
    let parts = c.tops-part-items.result.now in
    let part = c.part-item.result in
    let index = c.loop-part.part-index in
    let at =
    ap (λ xs. slice_get xs index) (sym c.tops-part-items.ensures) ∙ get_some parts index part c.loop-part-test.true c.part-item.is in
    let is = ap (λ slots. fluent_in domain slots part) (sym c.new-env.ensures) ∙ sym c.fluent_atom.ensures ∙ c.in-Some.is in
    λ _. atom_missed domain (g.L.Look.known bounds.look.now) bounds.atoms.now c.args.condition.now c.args.objects.now index part
    c.in-Some.atom at is (sym c.if-not-has.ensures)
