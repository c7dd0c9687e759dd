use Rattle.std.proofs.Common.{◌≡◌, ℕ, List, Some, None, true, length, sym, ap, ◌∙◌, arith, get_or, nat_le, nat_lt, ◌&&◌, inl, inr}
use Rattle.std.specs.Cmp.{first_so}
use Rattle.std.specs.List.{list_all}
use Rattle.formula_eval.proofs.ReadableLemmas.{roles_length, role_kept}
use Rattle.formula_eval.specs.Readable.{is_readable, is_readable_term}
use Rattle.task_model.specs.Condition.{Atom}
use Rattle.task_model.specs.Roles.{role_of}
use Rattle.task_model.specs.Truth.{objects_at}
use Rattle.task_model.specs.View.{view_of}
use Rattle.task_model.specs.declared.domain.Role.{Role}
use Rattle.task_model.specs.declared.domain.Role.TheVariants as role
use Rattle.task_model.specs.declared.fact.Atom as facts
use Rattle.grounder.specs.Parts.{fluent_as, fluent_in}
use Rattle.grounder.proofs.atoms.fluent_atom.Goals as goal
use borrow.Author.Tests.{ltb-true}

abbrev atom_with : ℕ → List ℕ → facts.Atom
atom_with pred args = record { pred = pred; args = args }

pub bounds : goal.bounds
bounds c =
    let domain = c.args.domain.now in
    let pred = c.in-Atom.pred in
    let args = c.in-Atom.args in
    let is : c.args.condition.now ≡ Atom pred args = sym c.condition.view_is ∙ ap view_of c.in-Atom.is in
    let readable : is_readable domain (Atom pred args) ≡ true = ap (is_readable domain) (sym is) ∙ c.requires.readable in
    let front = first_so (nat_lt pred (length domain.predicates) && nat_le (length args) 8) (list_all is_readable_term args) readable in
    let below =
    ltb-true pred (length domain.predicates) (first_so (nat_lt pred (length domain.predicates)) (nat_le (length args) 8) front) in
    omega (arith, below, roles_length domain c.requires.fit, ap length c.as_slice.ensures)

pub returns-in-Fluent : goal.returns-in-Fluent
returns-in-Fluent c =
    let domain = c.args.domain.now in
    let slots = c.args.env.now in
    let pred = c.in-Atom.pred in
    let args = c.in-Atom.args in
    let is : c.args.condition.now ≡ Atom pred args = sym c.condition.view_is ∙ ap view_of c.in-Atom.is in
    let readable : is_readable domain (Atom pred args) ≡ true = ap (is_readable domain) (sym is) ∙ c.requires.readable in
    let front = first_so (nat_lt pred (length domain.predicates) && nat_le (length args) 8) (list_all is_readable_term args) readable in
    let below =
    ltb-true pred (length domain.predicates) (first_so (nat_lt pred (length domain.predicates)) (nat_le (length args) 8) front) in
    let fluent : role_of domain pred ≡ role.Fluent = sym (role_kept domain c.requires.fit pred role.Static below)
    ∙ sym (ap (λ rs. get_or rs pred role.Static) c.as_slice.ensures) ∙ c.in-Fluent.is in
    let found : c.objects_at.result ≡ objects_at slots args =
    c.objects_at.ensures ∙ ap (objects_at slots) c.as_slice-in-Fluent.ensures in
    let some : fluent_in domain slots c.args.condition.now ≡ Some (atom_with pred (objects_at slots args)) =
    ap (fluent_in domain slots) is ∙ ap (λ r. fluent_as r (atom_with pred (objects_at slots args))) fluent in
    ap (λ xs. Some (atom_with pred xs)) found ∙ sym some

pub returns-in-Static : goal.returns-in-Static
returns-in-Static c =
    let domain = c.args.domain.now in
    let slots = c.args.env.now in
    let pred = c.in-Atom.pred in
    let args = c.in-Atom.args in
    let is : c.args.condition.now ≡ Atom pred args = sym c.condition.view_is ∙ ap view_of c.in-Atom.is in
    let readable : is_readable domain (Atom pred args) ≡ true = ap (is_readable domain) (sym is) ∙ c.requires.readable in
    let front = first_so (nat_lt pred (length domain.predicates) && nat_le (length args) 8) (list_all is_readable_term args) readable in
    let below =
    ltb-true pred (length domain.predicates) (first_so (nat_lt pred (length domain.predicates)) (nat_le (length args) 8) front) in
    let role = sym (role_kept domain c.requires.fit pred role.Static below)
    ∙ sym (ap (λ rs. get_or rs pred role.Static) c.as_slice.ensures) in
    let as_role = λ (r : Role). fluent_as r (atom_with pred (objects_at slots args)) in
    let none : as_role (role_of domain pred) ≡ None =
    elim c.in-Static.is [ inl e ↦ ap as_role (role ∙ e) | inr e ↦ ap as_role (role ∙ e) ] in
    sym (ap (fluent_in domain slots) is ∙ none)
