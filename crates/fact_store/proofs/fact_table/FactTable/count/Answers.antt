use Rattle.std.proofs.Common.{◌∙◌, ap, length}
use Rattle.task_model.specs.Known.{objects_of}
use Rattle.fact_store.proofs.LookupLemmas.{objects_counted}
use Rattle.fact_store.proofs.fact_table.FactTable.count.Goals as goal

pub returns-clause-count : goal.returns-clause-count
returns-clause-count c =
    c.count.ensures.count ∙ objects_counted c.args.sort c.as_slice.result.now
    ∙ ap (λ fs. length (objects_of fs c.args.sort)) (c.as_slice.ensures.keys ∙ c.self.view_is)
