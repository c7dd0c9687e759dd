use Rattle.std.proofs.Common.{ap, ◌∙◌}
use Rattle.std.proofs.lemmas.List.{append-nil}
use Rattle.std.proofs.lemmas.Result.{err_from_is_err_and}
use Rattle.instance_queue.proofs.LevelLemmas.{level_is, level_fault}
use Rattle.instance_queue.specs.Asks.{dues_of_instances}
use Rattle.instance_queue.proofs.level.level.Goals as goal

pub found_instances-requires-clause-names : goal.found_instances-requires-clause-names
found_instances-requires-clause-names c = c.new-names.ensures ∙ append-nil c.names.result.now ∙ c.names.ensures

pub returns-clause-due : goal.returns-clause-due
returns-clause-due c =
    level_is c.args.task.now c.args.facts.now.known c.args.queue.now c.in_ok-instances.instances.items c.in_ok-asks_of.field-0.items
    c.in_ok-instances.ensures.found c.in_ok-instances.ensures.few
    (c.in_ok-asks_of.ensures ∙ ap (dues_of_instances c.args.queue.now) c.as_slice.ensures.value)

pub returns-in_err-instances-clause-fault : goal.returns-in_err-instances-clause-fault
returns-in_err-instances-clause-fault c =
    let p = err_from_is_err_and c.from_residual.result c.from_residual.ensures.1 in
    rw (p.1, p.2)
    (level_fault c.args.task.now c.args.facts.now.known c.args.queue.now c.in_err-instances.field-0.0 c.in_err-instances.ensures.fault)
