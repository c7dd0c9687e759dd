use Rattle.std.proofs.Common.{◌∙◌, ◌++◌, ap}
use Rattle.task_model.specs.Known.{with_fact}
use Rattle.fact_layer.proofs.LaidLemmas.{facts_more}
use Rattle.fact_layer.proofs.more.More.add_all.Goals as goal

pub loop-fact-preserved : goal.loop-fact-preserved
loop-fact-preserved c =
    let base = c.args.base.now.known.facts in
    record {
      facts = facts_more c.args.facts.now c.loop-fact.fact-index c.fact-item.result (base ++ c.loop-fact.self.facts)
          (base ++ c.add.new.self.facts) c.loop-fact-test.true c.fact-item.is
          (c.in_ok-add.ensures.facts ∙ ap (with_fact (base ++ c.loop-fact.self.facts)) c.in_ok-copy.ensures)
          ∙ c.loop-fact.invariant.facts;
      values = c.add.ensures.values ∙ c.loop-fact.invariant.values;
    }
