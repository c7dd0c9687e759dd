use Rattle.std.proofs.Common.{◌≡◌, ◌∙◌, None, rules, arith}
use Rattle.serde_json.specs.Find.{as_str}
use Rattle.serde_json.specs.View.{view}
use Rattle.stream_map.specs.Faults.{Only}
use Rattle.stream_map.specs.Form.{listed}
use Rattle.stream_map.specs.declared.fault.MapFault.TheVariants.{Shape}
use Rattle.stream_map.proofs.FormLemmas.{listed-array, only_weaker, reads_all, reads_stop}
use Rattle.stream_map.proofs.form.texts_of.Goals as goal

pub returns-in_err-text_of-clause-other : goal.returns-in_err-text_of-clause-other
returns-in_err-text_of-clause-other c =
    let missed : Only Shape (listed as_str (view c.args.value.now) ≡ None) c.in_err-text_of.field-0.0 =
    only_weaker Shape _ _ c.in_err-text_of.field-0.0
    (λ none. listed-array as_str (view c.args.value.now) c.deref-item-items.result.now c.loop-item.invariant.list
    ∙ reads_stop (λ v. as_str (view v)) c.deref-item-items.result.now c.loop-item.item-index c.item-item.result _
    (omega arith) c.item-item.is none c.loop-item.invariant.reads)
    c.in_err-text_of.ensures.other in
    search rules

pub returns-clause-texts : goal.returns-clause-texts
returns-clause-texts c =
    listed-array as_str (view c.args.value.now) c.deref-item-items.result.now c.loop-item.invariant.list
    ∙ reads_all (λ v. as_str (view v)) c.deref-item-items.result.now c.loop-item.item-index _ (omega arith) c.loop-item.invariant.reads
