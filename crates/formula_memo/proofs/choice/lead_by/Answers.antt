use Rattle.std.proofs.Common.{◌≡◌, length, refl, sym, ap, ◌∙◌, arith, get_or}
use Rattle.std.specs.List.{list_all}
use Rattle.formula_eval.proofs.ReadableLemmas.{roles_length, role_kept}
use Rattle.formula_eval.specs.Readable.{is_readable_term}
use Rattle.task_model.specs.Condition.{Atom}
use Rattle.task_model.specs.Roles.{role_of}
use Rattle.task_model.specs.View.{view_of}
use Rattle.task_model.specs.declared.domain.Role.TheVariants as role
use Rattle.formula_memo.proofs.TriesLemmas.{lead_of_fluent, leads_of_static, readable_atom}
use Rattle.formula_memo.specs.Tries.{IsPlaced}
use Rattle.formula_memo.specs.declared.lead.Among.TheVariants.{State}
use Rattle.formula_memo.specs.declared.lead.Lead.{Lead}
use Rattle.formula_memo.proofs.choice.lead_by.Goals as goal

pub bounds : goal.bounds
bounds g c =
    let domain = c.args.scene.now.task.now.domain in
    let is : c.args.condition.now ≡ Atom c.in-Atom.pred c.in-Atom.args = sym c.condition.view_is ∙ ap view_of c.in-Atom.is in
    let atom = readable_atom domain c.args.condition.now c.in-Atom.pred c.in-Atom.args is c.requires.readable in
    omega (arith, atom.0, roles_length domain c.args.scene.now.fit.domain, ap length c.as_slice.ensures)

pub returns-then-len-most : goal.returns-then-len-most
returns-then-len-most g c =
    let domain = c.args.scene.now.task.now.domain in
    let pred = c.in-Atom.pred in
    let is : c.args.condition.now ≡ Atom pred c.in-Atom.args = sym c.condition.view_is ∙ ap view_of c.in-Atom.is in
    let atom = readable_atom domain c.args.condition.now pred c.in-Atom.args is c.requires.readable in
    let fluent : role_of domain pred ≡ role.Fluent = sym (role_kept domain c.args.scene.now.fit.domain pred role.Static atom.0)
    ∙ sym (ap (λ rs. get_or rs pred role.Static) c.as_slice.ensures) ∙ c.in-Fluent.is in
    let lead : Lead = record { pred = pred; terms = c.as_slice-terms.result; place = c.in_ok-place.place; among = State } in
    let placed : IsPlaced c.args.slot lead = record {
      at = c.in_ok-place.ensures;
      readable = ap (list_all is_readable_term) c.as_slice-terms.ensures ∙ atom.1;
    } in
    lead_of_fluent domain c.args.condition.now c.args.slot c.args.env.now lead
    (is ∙ ap (Atom pred) (sym c.as_slice-terms.ensures)) fluent placed refl

pub returns-in-Static : goal.returns-in-Static
returns-in-Static g c =
    let domain = c.args.scene.now.task.now.domain in
    let pred = c.in-Atom.pred in
    let is : c.args.condition.now ≡ Atom pred c.in-Atom.args = sym c.condition.view_is ∙ ap view_of c.in-Atom.is in
    let atom = readable_atom domain c.args.condition.now pred c.in-Atom.args is c.requires.readable in
    let static : role_of domain pred ≡ role.Static = sym (role_kept domain c.args.scene.now.fit.domain pred role.Static atom.0)
    ∙ sym (ap (λ rs. get_or rs pred role.Static) c.as_slice.ensures) ∙ c.in-Static.is in
    let lead : Lead = record { pred = pred; terms = c.as_slice-terms.result; place = c.in_ok-place.place; among = State } in
    let placed : IsPlaced c.args.slot lead = record {
      at = c.in_ok-place.ensures;
      readable = ap (list_all is_readable_term) c.as_slice-terms.ensures ∙ atom.1;
    } in
    leads_of_static domain c.args.condition.now c.args.slot c.args.env.now lead
    (is ∙ ap (Atom pred) (sym c.as_slice-terms.ensures)) static placed c.lead_in_facts.result c.lead_in_facts.ensures
