use Rattle.std.proofs.Common.{◌≡◌, true, length, sym, ap, ◌∙◌, arith, nat_le, nat_lt, ◌&&◌}
use Rattle.std.specs.Cmp.{first_so}
use Rattle.std.specs.List.{list_all}
use Rattle.formula_eval.proofs.ReadableLemmas.{roles_length}
use Rattle.formula_eval.specs.Readable.{is_readable, is_readable_term}
use Rattle.task_model.specs.Condition.{Atom}
use Rattle.task_model.specs.View.{view_of}
use Rattle.relaxed_task.proofs.inner.Exists.inner_atom.Goals as goal
use borrow.Author.Tests.{ltb-true}

pub bounds-as_slice-pred : goal.bounds-as_slice-pred
bounds-as_slice-pred c =
    let domain = c.args.domain.now in
    let pred = c.in-Atom.pred in
    let args = c.in-Atom.args in
    let is : c.args.part.now ≡ Atom pred args = sym c.part.view_is ∙ ap view_of c.in-Atom.is in
    let readable : is_readable domain (Atom pred args) ≡ true = ap (is_readable domain) (sym is) ∙ c.requires.readable in
    let front = first_so (nat_lt pred (length domain.predicates) && nat_le (length args) 8) (list_all is_readable_term args) readable in
    let below =
    ltb-true pred (length domain.predicates) (first_so (nat_lt pred (length domain.predicates)) (nat_le (length args) 8) front) in
    omega (arith, below, roles_length domain c.requires.fit, ap length c.as_slice.ensures)
