use Rattle.std.proofs.Common.{◌∙◌, ap, arith, sym}
use Rattle.spread_state.proofs.CellsLemmas.{contains_in, get_or_any}
use Rattle.spread_state.specs.Cells.{cell_in}
use Rattle.task_model.specs.State.{contains, empty}
use Rattle.spread_state.proofs.cells.SpreadState.has.Goals as goal

pub returns : goal.returns
returns c =
    let cells = c.self.inside.cells.items in
    let a = c.args.atom.now in
    let many = c.self.invariant.many in
    let within = c.cell_of.ensures.within in
    let there = c.index.ensures ∙ get_or_any cells c.cell_of.result c.index.result.now empty
    (omega (arith, many, within))
    ∙ ap (cell_in cells) c.cell_of.ensures.cell in
    c.has.ensures ∙ ap (λ s. contains s a) there ∙ sym (contains_in cells c.self.invariant a)
    ∙ ap (λ s. contains s a) c.self.view_is
