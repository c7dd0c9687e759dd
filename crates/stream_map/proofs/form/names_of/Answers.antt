use Rattle.std.proofs.Common.{◌≡◌, ◌≤◌, ◌∙◌, ap, None, Some, length, option_and_then, rules, arith}
use Rattle.serde_json.specs.View.{view}
use Rattle.stream_map.specs.Faults.{Only}
use Rattle.stream_map.specs.Form.{if_some, listed, name_in_data, names_in_data}
use Rattle.stream_map.specs.declared.fault.MapFault.TheVariants.{Shape}
use Rattle.stream_map.proofs.FormLemmas.{if_some-filled, listed-array, only_weaker, reads_all, reads_stop}
use Rattle.stream_map.proofs.form.names_of.Goals as goal

pub returns-in_err-name_of-clause-other : goal.returns-in_err-name_of-clause-other
returns-in_err-name_of-clause-other c =
    let missed : Only Shape (names_in_data (view c.args.value.now) ≡ None) c.in_err-name_of.field-0.0 =
    only_weaker Shape _ _ c.in_err-name_of.field-0.0
    (λ none. ap (option_and_then if_some)
    (listed-array name_in_data (view c.args.value.now) c.deref-item-items.result.now c.loop-item.invariant.list
    ∙ reads_stop (λ v. name_in_data (view v)) c.deref-item-items.result.now c.loop-item.item-index c.item-item.result _
    (omega arith) c.item-item.is none c.loop-item.invariant.reads))
    c.in_err-name_of.ensures.other in
    search rules

pub returns-clause-names : goal.returns-clause-names
returns-clause-names c =
    let all : listed name_in_data (view c.args.value.now) ≡ Some c.loop-item.names.items =
    listed-array name_in_data (view c.args.value.now) c.deref-item-items.result.now c.loop-item.invariant.list
    ∙ reads_all (λ v. name_in_data (view v)) c.deref-item-items.result.now c.loop-item.item-index _
    (omega arith) c.loop-item.invariant.reads in
    let some : 1 ≤ length c.loop-item.names.items = grind arith in
    let whole : names_in_data (view c.args.value.now) ≡ Some c.loop-item.names.items =
    ap (option_and_then if_some) all ∙ if_some-filled c.loop-item.names.items some in
    search rules
