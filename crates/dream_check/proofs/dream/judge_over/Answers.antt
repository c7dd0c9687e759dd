use Rattle.std.proofs.Common.{[], ◌∙◌, subst, sym}
use Rattle.dreaming.specs.Parts.{Portion}
use Rattle.dreaming.specs.Thinning.{IsPartAt}
use Rattle.dream_check.proofs.dream.judge_over.Goals as goal

pub of-requires : goal.of-requires
of-requires c = (c.args.task.now, c.requires.listed)

pub judge_by-requires-clause-names : goal.judge_by-requires-clause-names
judge_by-requires-clause-names c = c.deref.ensures ∙ c.in_ok-table.ensures.ok ∙ c.in_ok-of.ensures

pub judge_by-requires-clause-part : goal.judge_by-requires-clause-part
judge_by-requires-clause-part c =
    subst (λ (p : Portion). IsPartAt c.args.task.now c.args.supposed.now [] p)
    (sym (c.deref_mut.ensures.value ∙ c.in_ok-part.ensures.ok)) (record {
      part = c.new-2.ensures.part c.args.task.now c.requires.listed;
      base = c.new-2.ensures.base;
      list = c.new-2.ensures.list;
      places_are = c.new-2.ensures.places;
    })
