use Rattle.std.proofs.Common.{◌∙◌, get_or, refl}
use Rattle.task_model.specs.Known.{type_fact}
use Rattle.learning.proofs.CertifiedLemmas.{mapped_more}
use Rattle.learning.proofs.certified.add_each.Goals as goal

pub loop-sort-preserved : goal.loop-sort-preserved
loop-sort-preserved c =
    c.in_ok-push.ensures.items
    ∙ mapped_more (λ s. type_fact s c.args.object) c.args.sorts.now c.loop-sort.sort-index
    (get_or c.args.sorts.now c.loop-sort.sort-index 0) 0 c.args.facts.now.items
    c.loop-sort.facts.items c.type_fact.result c.loop-sort-test.true refl c.type_fact.ensures c.loop-sort.invariant
