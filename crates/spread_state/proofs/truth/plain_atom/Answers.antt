use Rattle.std.proofs.Common.{◌≡◌, ◌∙◌, length, sym, ap, arith, get_or}
use Rattle.formula_eval.proofs.ReadableLemmas.{fluent_at, role_kept, roles_length, static_at}
use Rattle.task_model.specs.Roles.{role_of}
use Rattle.task_model.specs.declared.domain.Role.TheVariants as role
use Rattle.spread_state.proofs.truth.plain_atom.Goals as goal

pub bounds : goal.bounds
bounds g c =
    let long : length c.as_slice.result.now ≡ length c.args.scene.now.task.now.domain.predicates =
    ap length c.as_slice.ensures ∙ roles_length c.args.scene.now.task.now.domain c.requires.fit.domain in
    omega (arith, c.requires.predicate)

pub returns-in-Static : goal.returns-in-Static
returns-in-Static g c =
    let domain = c.args.scene.now.task.now.domain in
    let is : role_of domain c.args.pred ≡ role.Static =
    sym (role_kept domain c.requires.fit.domain c.args.pred role.Static c.requires.predicate)
    ∙ sym (ap (λ rs. get_or rs c.args.pred role.Static) c.as_slice.ensures) ∙ c.in-Static.is in
    c.has.ensures
    ∙ sym (static_at domain (g.L.Look.known c.args.scene.now.look.now) c.args.scene.now.state.now c.args.pred
    c.args.args
    (length domain.derived) is)

pub returns-in-Fluent : goal.returns-in-Fluent
returns-in-Fluent g c =
    let domain = c.args.scene.now.task.now.domain in
    let is : role_of domain c.args.pred ≡ role.Fluent =
    sym (role_kept domain c.requires.fit.domain c.args.pred role.Static c.requires.predicate)
    ∙ sym (ap (λ rs. get_or rs c.args.pred role.Static) c.as_slice.ensures) ∙ c.in-Fluent.is in
    c.has-in-Fluent.ensures
    ∙ sym (fluent_at domain (g.L.Look.known c.args.scene.now.look.now) c.args.scene.now.state.now c.args.pred
    c.args.args
    (length domain.derived) is)
