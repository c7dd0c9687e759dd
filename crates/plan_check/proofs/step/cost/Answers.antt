use Rattle.std.proofs.Common.{◌≡◌, true, subst, sym}
use Rattle.std.specs.List.{list_all}
use Rattle.plan_check.specs.Readable.{is_readable_cost}
use Rattle.plan_check.proofs.ReadableLemmas.{readable_action}
use Rattle.plan_check.proofs.step.cost.Goals as goal

pub terms_cost-requires-clause-readable : goal.terms_cost-requires-clause-readable
terms_cost-requires-clause-readable g c =
    subst (λ ts. list_all is_readable_cost ts ≡ true)
    (sym c.as_slice.ensures) (readable_action c.args.task.now.domain c.requires.fit.domain c.args.action.now c.requires.action).costs
