use Rattle.std.proofs.Common.{◌≡◌, ◌<◌, inl, inr, sym, ap, ◌∙◌, arith, get_or, length}
use Rattle.formula_eval.proofs.ReadableLemmas.{role_kept, roles_length}
use Rattle.task_model.specs.Roles.{role_of}
use Rattle.task_model.specs.declared.domain.Role.TheVariants as role
use Rattle.plan_deorder.proofs.OccurringLemmas.{not_fluent}
use Rattle.plan_deorder.specs.Occurring.{is_fluent_role}
use Rattle.plan_deorder.proofs.reads.is_fluent.Goals as goal

pub returns-in-Fluent : goal.returns-in-Fluent
returns-in-Fluent c =
    let domain = c.args.domain.now in
    let below : c.args.pred < length domain.predicates = omega (arith, c.if-place-roles.true, ap length c.as_slice-roles.ensures, roles_length domain c.requires) in
    let role : role_of domain c.args.pred ≡ role.Fluent = sym (role_kept domain c.requires c.args.pred role.Static below)
    ∙ sym (ap (λ rs. get_or rs c.args.pred role.Static) c.as_slice-roles.ensures) ∙ c.in-Fluent.is in
    sym (ap is_fluent_role role)

pub returns-in-Static : goal.returns-in-Static
returns-in-Static c =
    let domain = c.args.domain.now in
    let below : c.args.pred < length domain.predicates = omega (arith, c.if-place-roles.true, ap length c.as_slice-roles.ensures, roles_length domain c.requires) in
    let role = sym (role_kept domain c.requires c.args.pred role.Static below)
    ∙ sym (ap (λ rs. get_or rs c.args.pred role.Static) c.as_slice-roles.ensures) in
    sym (elim c.in-Static.is [ inl e ↦ ap is_fluent_role (role ∙ e) | inr e ↦ ap is_fluent_role (role ∙ e) ])

pub returns-else-place-roles : goal.returns-else-place-roles
returns-else-place-roles c =
    not_fluent c.args.domain.now c.requires c.args.pred
    (omega (arith, c.if-place-roles.false, ap length c.as_slice-roles.ensures))
