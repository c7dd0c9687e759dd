use Rattle.std.proofs.Common.{◌+◌, ◌∙◌, drop, get_or, refl}
use Rattle.learning.proofs.OutputsLemmas.{types_more}
use Rattle.fact_store.proofs.GrowthLemmas.{between_then, facts_grow, facts_left, front_then}
use Rattle.lemmas.proofs.Results.{on_err}
use Rattle.task_model.specs.Initial.{type_facts}
use Rattle.task_model.specs.Known.{with_facts}
use Rattle.task_model.specs.Streams.{output_types}
use Rattle.learning.proofs.tuple.learn_types.Goals as goal

pub loop-place-preserved : goal.loop-place-preserved
loop-place-preserved c = record {
  facts =
      types_more c.args.domain.now c.args.sorts.now c.args.objects.now c.loop-place.place _ c.loop-place.facts.known.facts
      c.add_supertypes.new.facts.known.facts c.loop-place-test.true c.requires.long c.index-objects-place.is
      c.in_ok-add_supertypes.ensures.facts
      ∙ c.loop-place.invariant.facts;
  grown = front_then c.args.facts.now.known.facts c.loop-place.facts.known.facts c.add_supertypes.new.facts.known.facts
      c.loop-place.invariant.grown
      (facts_grow c.loop-place.facts.known.facts c.add_supertypes.new.facts.known.facts
      (type_facts c.args.domain.now (get_or c.args.sorts.now c.loop-place.place 0) c.index-objects-place.result)
      c.in_ok-add_supertypes.ensures.facts);
  names = c.in_ok-add_supertypes.ensures.names ∙ c.loop-place.invariant.names;
  values = c.in_ok-add_supertypes.ensures.values ∙ c.loop-place.invariant.values;
}

pub returns-in_err-add_supertypes-clause-part : goal.returns-in_err-add_supertypes-clause-part
returns-in_err-add_supertypes-clause-part c =
    let domain = c.args.domain.now in
    let sorts = c.args.sorts.now in
    let objects = c.args.objects.now in
    let place = c.loop-place.place in
    let first = c.args.facts.now.known.facts in
    let now = c.loop-place.facts.known.facts in
    let object = c.index-objects-place.result in
    let more = with_facts now (type_facts domain (get_or sorts place 0) object) in
    let all = with_facts first (output_types domain sorts objects) in
    on_err c.from_residual.result _
    (between_then first now c.add_supertypes.new.facts.known.facts more all c.loop-place.invariant.grown
    c.in_err-add_supertypes.ensures.part
    (facts_left more (output_types domain (drop (place + 1) sorts) (drop (place + 1) objects)) all
    (types_more domain sorts objects place object now more c.loop-place-test.true c.requires.long c.index-objects-place.is refl
    ∙ c.loop-place.invariant.facts)))
