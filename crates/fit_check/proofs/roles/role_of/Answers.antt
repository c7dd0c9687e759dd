use Rattle.std.proofs.Common.{sym, ◌∙◌}
use Rattle.fit_check.proofs.RoleLemmas.{role_derived, role_fluent, role_static}
use Rattle.fit_check.proofs.roles.role_of.Goals as goal

pub returns-then-is_derived : goal.returns-then-is_derived
returns-then-is_derived c = sym (role_derived c.args.domain.now c.args.pred (sym c.is_derived.ensures ∙ c.if-is_derived.true))

pub returns-then-is_changed : goal.returns-then-is_changed
returns-then-is_changed c =
    sym (role_fluent c.args.domain.now c.args.pred
    (sym c.is_derived.ensures ∙ c.if-is_derived.false) (sym c.is_changed.ensures ∙ c.if-is_changed.true))

pub returns-else-is_changed : goal.returns-else-is_changed
returns-else-is_changed c =
    sym (role_static c.args.domain.now c.args.pred
    (sym c.is_derived.ensures ∙ c.if-is_derived.false) (sym c.is_changed.ensures ∙ c.if-is_changed.false))
