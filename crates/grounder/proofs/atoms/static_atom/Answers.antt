use Rattle.std.proofs.Common.{◌≡◌, inl, inr, true, length, sym, ap, subst, ◌∙◌, arith, get_or, nat_le, nat_lt, ◌&&◌}
use Rattle.std.specs.Cmp.{first_so}
use Rattle.std.specs.List.{list_all}
use Rattle.formula_eval.proofs.ReadableLemmas.{roles_length, role_kept}
use Rattle.formula_eval.specs.Readable.{is_readable, is_readable_term}
use Rattle.task_model.specs.Condition.{Atom}
use Rattle.task_model.specs.Fit.{is_static_role}
use Rattle.task_model.specs.Roles.{role_of}
use Rattle.task_model.specs.View.{view_of}
use Rattle.task_model.specs.declared.domain.Role.TheVariants as role
use Rattle.fact_join.specs.declared.query.QueryAtom.{QueryAtom}
use Rattle.grounder.proofs.PartsLemmas.{needed_atom}
use Rattle.grounder.specs.Parts.{IsNeeded, is_static_part}
use Rattle.grounder.proofs.atoms.static_atom.Goals as goal
use borrow.Author.Tests.{ltb-true}

pub bounds : goal.bounds
bounds c =
    let domain = c.args.domain.now in
    let pred = c.in-Atom.pred in
    let args = c.in-Atom.args in
    let is : c.args.condition.now ≡ Atom pred args = sym c.condition.view_is ∙ ap view_of c.in-Atom.is in
    let readable : is_readable domain (Atom pred args) ≡ true = ap (is_readable domain) (sym is) ∙ c.requires.readable in
    let front = first_so (nat_lt pred (length domain.predicates) && nat_le (length args) 8) (list_all is_readable_term args) readable in
    let below =
    ltb-true pred (length domain.predicates) (first_so (nat_lt pred (length domain.predicates)) (nat_le (length args) 8) front) in
    omega (arith, below, roles_length domain c.requires.fit, ap length c.as_slice.ensures)

pub returns-in-Static : goal.returns-in-Static
returns-in-Static c =
    let domain = c.args.domain.now in
    let pred = c.in-Atom.pred in
    let args = c.in-Atom.args in
    let is : c.args.condition.now ≡ Atom pred args = sym c.condition.view_is ∙ ap view_of c.in-Atom.is in
    let readable : is_readable domain (Atom pred args) ≡ true = ap (is_readable domain) (sym is) ∙ c.requires.readable in
    let front = first_so (nat_lt pred (length domain.predicates) && nat_le (length args) 8) (list_all is_readable_term args) readable in
    let below =
    ltb-true pred (length domain.predicates) (first_so (nat_lt pred (length domain.predicates)) (nat_le (length args) 8) front) in
    let static : role_of domain pred ≡ role.Static = sym (role_kept domain c.requires.fit pred role.Static below)
    ∙ sym (ap (λ rs. get_or rs pred role.Static) c.as_slice.ensures) ∙ c.in-Static.is in
    let atom : QueryAtom = record { pred = pred; terms = c.as_slice-in-Static.result } in
    subst (λ x. IsNeeded domain x atom) (ap (Atom pred) c.as_slice-in-Static.ensures ∙ sym is)
    (needed_atom domain c.requires.fit atom static)

pub returns-in-Fluent : goal.returns-in-Fluent
returns-in-Fluent c =
    let domain = c.args.domain.now in
    let pred = c.in-Atom.pred in
    let args = c.in-Atom.args in
    let is : c.args.condition.now ≡ Atom pred args = sym c.condition.view_is ∙ ap view_of c.in-Atom.is in
    let readable : is_readable domain (Atom pred args) ≡ true = ap (is_readable domain) (sym is) ∙ c.requires.readable in
    let front = first_so (nat_lt pred (length domain.predicates) && nat_le (length args) 8) (list_all is_readable_term args) readable in
    let below =
    ltb-true pred (length domain.predicates) (first_so (nat_lt pred (length domain.predicates)) (nat_le (length args) 8) front) in
    let role = sym (role_kept domain c.requires.fit pred role.Static below)
    ∙ sym (ap (λ rs. get_or rs pred role.Static) c.as_slice.ensures) in
    ap (is_static_part domain) is ∙ elim c.in-Fluent.is [ inl e ↦ ap is_static_role (role ∙ e) | inr e ↦ ap is_static_role (role ∙ e) ]
