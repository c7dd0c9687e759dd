use Rattle.std.proofs.Common.{◌≡◌, ◌∙◌, ap, arith, get_or, length}
use Rattle.formula_eval.proofs.ReadableLemmas.{role_kept, roles_length}
use Rattle.task_model.specs.declared.domain.Role.TheVariants as role
use Rattle.best_first.proofs.steady.predicate_role.Goals as goal

pub bounds-as_slice-pred : goal.bounds-as_slice-pred
bounds-as_slice-pred c =
    let domain = c.args.domain.now in
    let long : length c.as_slice.result.now ≡ length domain.predicates =
    ap length c.as_slice.ensures ∙ roles_length domain c.requires.fit in
    omega (arith, c.requires.predicate)

pub returns : goal.returns
returns c =
    let domain = c.args.domain.now in
    ap (λ rs. get_or rs c.args.pred role.Static) c.as_slice.ensures ∙ role_kept domain c.requires.fit c.args.pred role.Static c.requires.predicate
