use Rattle.std.proofs.Common.{◌∙◌, ◌++◌, ap, drop, sym}
use Rattle.std.proofs.lemmas.List.{append-nil, drop_all}
use Rattle.task_model.specs.Streams.{output_types}
use Rattle.learning.proofs.CertifiedLemmas.{outputs_more}
use Rattle.learning.proofs.certified.add_output_types.Goals as goal

pub loop-place-preserved : goal.loop-place-preserved
loop-place-preserved c =
    outputs_more c.args.domain.now c.args.sorts.now c.args.objects.now c.loop-place.place c.index-objects-place.result
    c.loop-place.facts.items c.add_types.new.facts.items _ c.loop-place-test.true c.requires c.index-objects-place.is
    c.in_ok-add_types.ensures c.loop-place.invariant

pub returns : goal.returns
returns c =
    let none = drop_all c.loop-place.place c.args.sorts.now c.loop-place-test.false in
    sym (append-nil c.loop-place.facts.items)
    ∙ ap (λ sorts. c.loop-place.facts.items ++ output_types c.args.domain.now sorts (drop c.loop-place.place c.args.objects.now)) (sym none)
    ∙ c.loop-place.invariant
