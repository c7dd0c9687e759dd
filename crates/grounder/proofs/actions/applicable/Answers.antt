use Rattle.std.proofs.Common.{◌<◌, length, get_or, sym, ap, subst, ◌∙◌, arith}
use Rattle.lemmas.proofs.ListTests.{get_some}
use Rattle.grounder.proofs.ListingLemmas.{AreListed, listed_none, listed_next, all_listed}
use Rattle.grounder.proofs.actions.applicable.Goals as goal

pub loop-number-init : goal.loop-number-init
loop-number-init g c =
    subst (AreListed c.args.task.now (g.L.Look.known c.args.look.now) c.args.state.now 0) (sym c.new-steps.ensures.items)
    (listed_none c.args.task.now (g.L.Look.known c.args.look.now) c.args.state.now)

pub add_steps-requires-clause-named : goal.add_steps-requires-clause-named
add_steps-requires-clause-named g c =
    let actions = c.args.task.now.domain.actions in
    let number = c.loop-number.number in
    let inside : number < length actions = omega (arith, ap length c.as_slice-action-items.ensures) in
    get_some actions number c.action-item.result inside
    (c.action-item.is ∙ ap (λ xs. get_or xs number c.action-item.result) c.as_slice-action-items.ensures)

pub loop-number-preserved : goal.loop-number-preserved
loop-number-preserved g c =
    listed_next c.args.task.now (g.L.Look.known c.args.look.now) c.args.state.now c.loop-number.number c.loop-number.steps.items
    c.add_steps.new.steps.items c.loop-number.invariant c.in_ok-add_steps.ensures

pub returns : goal.returns
returns g c =
    all_listed c.args.task.now (g.L.Look.known c.args.look.now) c.args.state.now c.loop-number.number c.loop-number.steps.items
    (omega (arith, ap length c.as_slice-action-items.ensures)) c.loop-number.invariant
