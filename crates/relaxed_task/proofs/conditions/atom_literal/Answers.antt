use Rattle.std.proofs.Common.{◌≡◌, length, ap, ◌∙◌, arith}
use Rattle.formula_eval.proofs.ReadableLemmas.{roles_length}
use Rattle.relaxed_task.proofs.conditions.atom_literal.Goals as goal

pub bounds : goal.bounds
bounds g c =
    let domain = c.args.scene.now.task.now.domain in
    let long : length c.as_slice.result.now ≡ length domain.predicates =
    ap length c.as_slice.ensures ∙ roles_length domain c.requires.fit in
    omega (arith, c.requires.predicate)
