use Rattle.std.proofs.Common.{◌&&◌, is_some, ap, sym, ◌∙◌, arith}
use Rattle.lemmas.proofs.Members.{member_at}
use Rattle.plan_check.proofs.ReadableLemmas.{fit_action, readable_action}
use Rattle.task_model.proofs.TruthLemmas.{have_types-length}
use Rattle.task_model.specs.Steps.{cost_of}
use Rattle.grounder.proofs.AsksLemmas.{all_met, all_within, some_unmet}
use Rattle.grounder.specs.Parts.{tops_of}
use Rattle.grounder.proofs.finder.can_take.Goals as goal

pub are_met-requires : goal.are_met-requires
are_met-requires g c =
    let scene = c.args.scene.now in
    let table = c.args.table in
    all_within scene.task.now.domain (g.L.Look.known scene.look.now) scene.state.now table.rows.now c.requires.table.numbered
    table.marks.now c.requires.table.marks c.args.row c.args.args.now c.requires.here (tops_of scene.action.now.condition)
    table.asks.now c.requires.table.asks

pub can_go-requires-clause-action : goal.can_go-requires-clause-action
can_go-requires-clause-action g c =
    let scene = c.args.scene.now in
    fit_action scene.task.now.domain c.requires.fit.domain scene.number scene.action.now c.requires.named

pub can_go-requires-clause-few : goal.can_go-requires-clause-few
can_go-requires-clause-few g c =
    let scene = c.args.scene.now in
    let domain = scene.task.now.domain in
    let known = g.L.Look.known scene.look.now in
    let args = c.args.args.now in
    let fit = fit_action domain c.requires.fit.domain scene.number scene.action.now c.requires.named in
    let params = (readable_action domain c.requires.fit.domain scene.action.now fit).params in
    let there = member_at c.args.table.rows.now c.args.row args c.requires.here in
    let typed = ((c.requires.table.rows.each args).0 there).0 in
    omega (arith, params, have_types-length known args scene.action.now.params typed)

pub can_go-requires-clause-met : goal.can_go-requires-clause-met
can_go-requires-clause-met g c =
    let scene = c.args.scene.now in
    let table = c.args.table in
    all_met scene.task.now.domain (g.L.Look.known scene.look.now) scene.state.now table.rows.now c.requires.table.numbered
    table.marks.now c.requires.table.marks c.args.row c.args.args.now c.requires.here (tops_of scene.action.now.condition)
    table.asks.now c.requires.table.asks (sym c.if-are_met.ensures)

pub returns-else-are_met-clause-value : goal.returns-else-are_met-clause-value
returns-else-are_met-clause-value g c =
    let scene = c.args.scene.now in
    let known = g.L.Look.known scene.look.now in
    let table = c.args.table in
    let none = some_unmet scene.task.now.domain known scene.state.now table.rows.now c.requires.table.numbered
    table.marks.now c.requires.table.marks c.args.row c.args.args.now c.requires.here (tops_of scene.action.now.condition)
    table.asks.now c.requires.table.asks (sym c.if-are_met.ensures) in
    c.if-are_met.false
    ∙ sym (ap (λ b. b && is_some (cost_of scene.task.now known scene.action.now c.args.args.now)) none)
