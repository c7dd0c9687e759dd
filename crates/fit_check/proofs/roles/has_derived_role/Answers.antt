use Rattle.std.proofs.Common.{sym, ◌∙◌}
use Rattle.fit_check.proofs.RoleLemmas.{derived_by_role}
use Rattle.fit_check.proofs.roles.has_derived_role.Goals as goal

pub returns : goal.returns
returns c = c.is_derived.ensures ∙ sym (derived_by_role c.args.domain.now c.args.pred)
