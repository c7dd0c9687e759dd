use Rattle.std.proofs.Common.{◌∙◌, ap, arith, sym}
use Rattle.std.proofs.lemmas.List.{drop_all}
use Rattle.spread_state.proofs.CellsLemmas.{put_together}
use Rattle.task_model.specs.State.{empty, with_atoms}
use Rattle.spread_state.proofs.cells.SpreadState.spread.Goals as goal

pub returns : goal.returns
returns c =
    let all = drop_all c.loop-atom.atom-index c.as_slice-atom-items.result.now
    (omega (arith, c.loop-atom-test.false)) in
    sym (ap (with_atoms c.loop-atom.spread) all) ∙ c.loop-atom.invariant
    ∙ ap (with_atoms empty) c.as_slice-atom-items.ensures ∙ put_together c.args.state.now
