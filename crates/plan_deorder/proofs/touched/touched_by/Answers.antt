use Rattle.std.proofs.Common.{◌≡◌, ◌↔◌, ◌++◌, true, map, sym, ap, subst, ◌∙◌}
use Rattle.std.specs.List.{list_all}
use Rattle.lemmas.specs.Lists.{has_number}
use Rattle.plan_check.proofs.ReadableLemmas.{fit_action, readable_action}
use Rattle.plan_check.specs.Readable.{is_readable_pattern}
use Rattle.task_model.specs.State.{from_list}
use Rattle.task_model.specs.Steps.{atom_of}
use Rattle.task_model.specs.Truth.{slots_of}
use Rattle.plan_deorder.proofs.ActionLemmas.{at_place}
use Rattle.plan_deorder.specs.Touches.{ReadsAll, adds_of, deletes_of, reads_in}
use Rattle.plan_deorder.proofs.touched.touched_by.Goals as goal

pub pattern_atoms-requires : goal.pattern_atoms-requires
pattern_atoms-requires c =
    let task = c.args.task.now in
    let at = at_place task c.args.step.now c.requires.named c.as_slice.result.now c.as_slice.ensures c.index-as_slice-step.result c.index-as_slice-step.is in
    ap (list_all is_readable_pattern) c.as_slice-3.ensures
    ∙ (readable_action task.domain c.requires.fit.domain c.index-as_slice-step.result
    (fit_action task.domain c.requires.fit.domain c.args.step.now.action c.index-as_slice-step.result at)).adds

pub pattern_atoms-requires-2 : goal.pattern_atoms-requires-2
pattern_atoms-requires-2 c =
    let task = c.args.task.now in
    let at = at_place task c.args.step.now c.requires.named c.as_slice.result.now c.as_slice.ensures c.index-as_slice-step.result c.index-as_slice-step.is in
    ap (list_all is_readable_pattern) c.as_slice-4.ensures
    ∙ (readable_action task.domain c.requires.fit.domain c.index-as_slice-step.result
    (fit_action task.domain c.requires.fit.domain c.args.step.now.action c.index-as_slice-step.result at)).deletes

pub put_reads-requires-clause-readable : goal.put_reads-requires-clause-readable
put_reads-requires-clause-readable c =
    let task = c.args.task.now in
    let at = at_place task c.args.step.now c.requires.named c.as_slice.result.now c.as_slice.ensures c.index-as_slice-step.result c.index-as_slice-step.is in
    (readable_action task.domain c.requires.fit.domain c.index-as_slice-step.result
    (fit_action task.domain c.requires.fit.domain c.args.step.now.action c.index-as_slice-step.result at)).condition

pub returns : goal.returns
returns c =
    let task = c.args.task.now in
    let step = c.args.step.now in
    let action = c.index-as_slice-step.result in
    let at = at_place task step c.requires.named c.as_slice.result.now c.as_slice.ensures action c.index-as_slice-step.is in
    let slots : c.new-env.result ≡ slots_of step.args = c.new-env.ensures ∙ ap slots_of c.as_slice-2.ensures in
    let adds : c.in_ok-adds.adds.items ≡ adds_of action step.args =
    c.in_ok-adds.ensures ∙ (λ i. map (atom_of (slots i)) (c.as_slice-3.ensures i)) in
    let deletes : c.in_ok-deletes.deletes.items ≡ deletes_of action step.args =
    c.in_ok-deletes.ensures ∙ (λ i. map (atom_of (slots i)) (c.as_slice-4.ensures i)) in
    let reads : c.put_reads.new.atoms.items ≡ reads_in task.domain (slots_of step.args) action.condition =
    c.in_ok-put_reads.ensures ∙ (λ i. c.new-reads.ensures.items i ++ reads_in task.domain (slots i) action.condition) in
    record {
      action = action;
      named = at;
      adds = c.from_atoms.ensures ∙ ap from_list adds;
      deletes = c.from_atoms-2.ensures ∙ ap from_list deletes;
      reads = c.from_atoms-3.ensures ∙ ap from_list reads;
      whole = λ p. subst (λ xs. (has_number xs p ≡ true) ↔ ReadsAll task.domain action.condition p) (sym c.from_vec.ensures)
          (c.in_ok-whole.ensures p);
    }
