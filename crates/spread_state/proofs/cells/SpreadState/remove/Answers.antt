use Rattle.std.proofs.Common.{◌∙◌, ap}
use Rattle.spread_state.proofs.CellsLemmas.{removed_at}
use Rattle.task_model.specs.State.{remove}
use Rattle.spread_state.proofs.cells.SpreadState.remove.Goals as goal

pub invariant_of-self : goal.invariant_of-self
invariant_of-self c =
    (removed_at c.self.inside.cells.items c.self.invariant c.args.atom.now c.cell_of.result c.cell_of.ensures.cell
    c.index_mut-cell.result.now c.index_mut-cell.ensures.value c.remove.new.self c.remove.ensures.state).0

pub returns : goal.returns
returns c =
    (removed_at c.self.inside.cells.items c.self.invariant c.args.atom.now c.cell_of.result c.cell_of.ensures.cell
    c.index_mut-cell.result.now c.index_mut-cell.ensures.value c.remove.new.self c.remove.ensures.state).1
    ∙ ap (λ s. remove s c.args.atom.now) c.self.view_is
