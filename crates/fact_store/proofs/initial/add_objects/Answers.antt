use Rattle.std.proofs.Common.{ap, ◌∙◌, [], ◌∷◌, ◌++◌}
use Rattle.std.specs.List.{flat_map}
use Rattle.fact_store.proofs.InitialLemmas.{object_more}
use Rattle.fact_store.proofs.initial.add_objects.Goals as goal
use Rattle.task_model.specs.Initial.{type_facts}
use Rattle.task_model.specs.Known.{with_facts}

pub loop-place-preserved : goal.loop-place-preserved
loop-place-preserved c = record {
  facts = object_more c.args.domain.now c.args.objects.now c.loop-place.place c.index-objects-place.result c.loop-place.facts.known.facts
      c.add_object.new.facts.known.facts c.loop-place-test.true c.index-objects-place.is
      (c.in_ok-add_object.ensures.facts
      ∙ ap (λ o. with_facts c.loop-place.facts.known.facts
      (flat_map (λ sort. type_facts c.args.domain.now sort o) (c.index-objects-place.result.sorts ++ 0 ∷ []))) c.new.ensures)
      ∙ c.loop-place.invariant.facts;
  names = c.in_ok-add_object.ensures.names ∙ c.loop-place.invariant.names;
  values = c.in_ok-add_object.ensures.values ∙ c.loop-place.invariant.values;
}
