use Rattle.std.proofs.Common.{◌∙◌, ap, length, ◌++◌}
use Rattle.task_model.specs.Known.{objects_of}
use Rattle.fact_layer.proofs.LaidLemmas.{counted, objects-append}
use Rattle.fact_layer.proofs.more.More.count.Goals as goal

pub returns : goal.returns
returns c =
    let base = c.args.base.now.known.facts in
    let more = c.args.self.now.facts in
    let sort = c.args.sort in
    counted (objects_of base sort) (objects_of more sort) (objects_of (base ++ more) sort) c.count.result c.count-2.result
    (c.count.ensures.count ∙ ap (λ fs. length (objects_of fs sort)) c.fact_table.ensures) c.count-2.ensures.count
    (objects-append sort base more)
