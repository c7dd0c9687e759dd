use Rattle.std.proofs.Common.{◌≡◌, true, sym, ap, subst, ◌∙◌, IfSome, Option}
use Rattle.formula_eval.proofs.ConditionPartLemmas.{readable_part}
use Rattle.formula_eval.specs.Readable.{is_readable}
use Rattle.task_model.specs.Condition.{All as every, parts_of}
use Rattle.task_model.specs.View.{view_of}
use Rattle.formula_memo.proofs.TriesLemmas.{lead_of_part}
use Rattle.formula_memo.specs.Tries.{IsTryLead}
use Rattle.formula_memo.specs.declared.lead.Lead.{Lead}
use Rattle.formula_memo.proofs.choice.lead_for.Goals as goal
use Rattle.formula_memo.proofs.choice.lead_for.Goals.{in-Some, in_default-lead_by}

pub lead_by-requires-in-loop-number : goal.lead_by-requires-in-loop-number
lead_by-requires-in-loop-number g c =
    let domain = c.args.scene.now.task.now.domain in
    let parts = c.in-All.parts.items in
    let is : c.args.condition.now ≡ every (parts_of parts) = sym c.condition.view_is ∙ ap view_of c.in-All.is in
    let readable : is_readable domain (every (parts_of parts)) ≡ true = ap (is_readable domain) (sym is) ∙ c.requires.readable in
    let same = c.as_slice-part-items.ensures.value in
    record {
      readable = readable_part domain c.as_slice-part-items.result.now c.loop-number.number c.part-item.result
          (subst (λ xs. is_readable domain (every (parts_of xs)) ≡ true) (sym same) readable) c.loop-number-test.true c.part-item.is;
    }

pub loop-number-preserved : goal.loop-number-preserved
loop-number-preserved g c =
    let domain = c.args.scene.now.task.now.domain in
    let parts = c.in-All.parts.items in
    let is : c.args.condition.now ≡ every (parts_of parts) = sym c.condition.view_is ∙ ap view_of c.in-All.is in
    let same = c.as_slice-part-items.ensures.value in
    let kept = λ (best : Option Lead). IfSome best (IsTryLead domain c.args.condition.now c.args.slot c.args.env.now) in
    elim c.match-lead_by.branch [
      | in-Some w ↦
          let lead = w.in-Some.next in
          subst kept (sym w.best-is)
          (subst (λ x. IsTryLead domain x c.args.slot c.args.env.now lead) (ap (λ xs. every (parts_of xs)) same ∙ sym is)
          (lead_of_part domain c.as_slice-part-items.result.now c.loop-number.number c.part-item.result c.args.slot
          c.args.env.now lead c.loop-number-test.true c.part-item.is w.in-Some.ensures))
      | in_default-lead_by w ↦ subst kept (sym w.best-is) c.loop-number.invariant
    ]
