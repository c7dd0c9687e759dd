use Rattle.std.proofs.Common.{◌∙◌, ap}
use Rattle.spread_state.proofs.CellsLemmas.{added_at}
use Rattle.task_model.specs.State.{insert}
use Rattle.spread_state.proofs.cells.SpreadState.add.Goals as goal

pub invariant_of-self-2 : goal.invariant_of-self-2
invariant_of-self-2 c =
    (added_at c.self.inside.cells.items c.self.invariant c.args.atom c.cell_of.result c.cell_of.ensures.cell
    c.index_mut-cell.result.now c.index_mut-cell.ensures.value c.add.new.self c.in_ok-add.ensures.state).0

pub returns-clause-state : goal.returns-clause-state
returns-clause-state c =
    (added_at c.self.inside.cells.items c.self.invariant c.args.atom c.cell_of.result c.cell_of.ensures.cell
    c.index_mut-cell.result.now c.index_mut-cell.ensures.value c.add.new.self c.in_ok-add.ensures.state).1
    ∙ ap (λ s. insert s c.args.atom) c.self.view_is
