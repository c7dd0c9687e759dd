use Rattle.std.proofs.Common.{◌≡◌, ◌+◌, ◌||◌, false, drop, refl, sym, ap, ◌∙◌, Some, slice_get}
use Rattle.std.proofs.lemmas.List.{drop_all}
use Rattle.std.specs.List.{list_any}
use Rattle.lemmas.proofs.ListTests.{any_from, get_some}
use Rattle.task_model.specs.State.{contains, items}
use Rattle.plan_deorder.proofs.conflict.meet.Goals as goal

pub loop-atom-init : goal.loop-atom-init
loop-atom-init c = refl

pub loop-atom-preserved : goal.loop-atom-preserved
loop-atom-preserved c =
    let passes = contains c.args.second.now in
    let atoms = items c.args.first.now in
    let index = c.loop-atom.atom-index in
    let atom = c.atom-item.result in
    let at : slice_get atoms index ≡ Some atom =
    ap (λ xs. slice_get xs index) (sym c.as_slice-atom-items.ensures)
    ∙ get_some c.as_slice-atom-items.result.now index atom c.loop-atom-test.true c.atom-item.is in
    let fails : passes atom ≡ false = sym c.has.ensures ∙ c.if-has.false in
    sym (any_from passes atoms index atom at ∙ ap (λ b. b || list_any passes (drop (index + 1) atoms)) fails)
    ∙ c.loop-atom.invariant

pub returns : goal.returns
returns c =
    let passes = contains c.args.second.now in
    sym (ap (list_any passes) (ap (drop c.loop-atom.atom-index) (sym c.as_slice-atom-items.ensures)
    ∙ drop_all c.loop-atom.atom-index c.as_slice-atom-items.result.now c.loop-atom-test.false))
    ∙ c.loop-atom.invariant
