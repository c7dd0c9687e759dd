use Rattle.std.proofs.Common.{◌≡◌, drop}
use Rattle.std.specs.List.{list_all}
use Rattle.task_model.specs.Known.{is_fact}
use Rattle.task_model.specs.Streams.{fact_of}
use Rattle.instance_search.proofs.reach.are_known.Given as goal

-- what is left decides
abbrev pub invariant-loop-pattern : goal.invariant-loop-pattern
invariant-loop-pattern g l =
    list_all (λ p. is_fact (g.L.Look.known l.look).facts (fact_of l.env p)) (drop l.pattern-index l.patterns)
    ≡ list_all (λ p. is_fact (g.L.Look.known l.look).facts (fact_of l.env p)) l.patterns
