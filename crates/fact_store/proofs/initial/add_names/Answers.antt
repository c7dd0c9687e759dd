use Rattle.std.proofs.Common.{◌∙◌}
use Rattle.fact_store.proofs.InitialLemmas.{name_next}
use Rattle.fact_store.proofs.initial.add_names.Goals as goal
use Rattle.task_model.specs.Known.{with_name}

pub loop-declared-preserved : goal.loop-declared-preserved
loop-declared-preserved c = record {
  names =
      c.in_ok-add_name.ensures.names
      ∙ (λ i. with_name (c.loop-declared.invariant.names i) (c.in_ok-name.ensures i))
      ∙ name_next (λ d. d.name) c.args.objects.now c.loop-declared.declared-index c.declared-item.result c.requires.distinct
      c.loop-declared-test.true c.declared-item.is;
  facts = c.in_ok-add_name.ensures.facts ∙ c.loop-declared.invariant.facts;
  values = c.in_ok-add_name.ensures.values ∙ c.loop-declared.invariant.values;
}
