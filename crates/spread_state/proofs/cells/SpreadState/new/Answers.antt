use Rattle.std.proofs.Common.{◌≡◌, ◌∙◌, ap, sym, subst, arith, replicate}
use Rattle.spread_state.proofs.CellsLemmas.{empty_is, empty_spread}
use Rattle.spread_state.specs.Cells.{IsSpread, cell_atoms}
use Rattle.spread_state.specs.declared.cells.TheConstants.{CELLS}
use Rattle.task_model.specs.State.{empty}
use Rattle.spread_state.proofs.cells.SpreadState.new.Goals as goal

pub invariant_of-result : goal.invariant_of-result
invariant_of-result c =
    let all : c.loop.counter ≡ CELLS = omega (arith, c.loop-test.false) in
    subst IsSpread (sym (c.loop.invariant ∙ ap (λ n. replicate n empty) all)) empty_spread

pub returns : goal.returns
returns c =
    let all : c.loop.counter ≡ CELLS = omega (arith, c.loop-test.false) in
    ap cell_atoms (c.loop.invariant ∙ ap (λ n. replicate n empty) all) ∙ empty_is
