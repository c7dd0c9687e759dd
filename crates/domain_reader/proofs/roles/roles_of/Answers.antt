use Rattle.std.proofs.Common.{◌≡◌, ◌∙◌, ap, length, replicate}
use Rattle.task_model.specs.declared.domain.Role.TheVariants.{Static, Derived}
use Rattle.domain_reader.specs.Marks.{all_marked, fluents_marked, headed_preds}
use Rattle.domain_reader.proofs.MarksLemmas.{roles_are}
use Rattle.domain_reader.proofs.roles.roles_of.Goals as goal

pub returns : goal.returns
returns c =
    let d = c.args.domain.now in
    let static : c.in_ok-roles.roles.items ≡ replicate (length d.predicates) Static =
    c.in_ok-roles.ensures.items_if_clones_equal (λ y e. e) ∙ ap (λ n. replicate n Static) c.len.ensures in
    c.mark_derived.ensures
    ∙ (λ i. all_marked Derived (c.mark_fluents.ensures i) (headed_preds (c.as_slice-2.ensures i)))
    ∙ (λ i. all_marked Derived (fluents_marked (static i) (c.as_slice.ensures i)) (headed_preds d.derived))
    ∙ roles_are d
