use Rattle.std.proofs.Common.{◌≡◌, ap, sym, ◌∙◌, Some, slice_get}
use Rattle.std.proofs.lemmas.Option.{slice_get-get_or}
use Rattle.session_core.proofs.SlotsLemmas.{found_first}
use Rattle.session_core.proofs.round.place_of.Goals as goal

pub returns-then-child-clause-found : goal.returns-then-child-clause-found
returns-then-child-clause-found c =
    let item = c.index-cells-place.result in
    let at : slice_get c.args.cells.now c.loop-place.place ≡ Some item =
    slice_get-get_or c.args.cells.now c.loop-place.place item c.loop-place-test.true ∙ ap Some (sym c.index-cells-place.is) in
    at
    ∙ sym (sym c.loop-place.invariant
    ∙ found_first c.args.cells.now c.loop-place.place c.args.child item at (sym c.child.ensures ∙ c.if-child.true))
