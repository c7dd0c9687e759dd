use Rattle.std.proofs.Common.{◌++◌, map, ap, ◌∙◌}
use Rattle.std.proofs.lemmas.List.{take_all}
use Rattle.instance_search.proofs.FoundLemmas.{instances_more}
use Rattle.instance_search.specs.Found.{instance_at}
use Rattle.instance_search.proofs.search.add_instances.Goals as goal

pub loop-inputs-preserved : goal.loop-inputs-preserved
loop-inputs-preserved g c =
    c.in_ok-push.ensures.items
    ∙ instances_more c.args.search.now.place c.as_slice-inputs-items.result.now c.loop-inputs.inputs-index c.inputs-item.result
    c.in_ok-copy.field-0 c.args.instances.now.items c.loop-inputs.instances.items
    c.loop-inputs-test.true c.inputs-item.is c.in_ok-copy.ensures.objects c.loop-inputs.invariant

pub returns-clause-found : goal.returns-clause-found
returns-clause-found g c =
    let search = c.args.search.now in
    let items = c.as_slice-inputs-items.result.now in
    let whole = take_all c.loop-inputs.inputs-index items c.loop-inputs-test.false ∙ c.as_slice-inputs-items.ensures.value in (
      c.in_ok-rows.rows.items,
      c.loop-inputs.invariant ∙ ap (λ xs. c.args.instances.now.items ++ map (instance_at search.place) xs) whole,
      c.in_ok-rows.ensures.found,
    )
