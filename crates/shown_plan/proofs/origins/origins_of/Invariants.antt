use Rattle.std.proofs.Common.{◌≡◌, ◌++◌, map, All}
use Rattle.shown_plan.specs.Sources.{IsGivenValue}
use Rattle.transcript_model.specs.Outcomes.{IsOrigin}
use Rattle.transcript_model.specs.declared.outcome.Origin.{Origin}
use Rattle.shown_plan.proofs.origins.origins_of.Given as goal

-- the objects so far and those that are left are all
abbrev pub invariant-loop-name : goal.invariant-loop-name
invariant-loop-name l = record {
  objects : map (λ (o : Origin). o.object) l.from.items ++ map (λ n. n.now) l.name-iterator ≡ map (λ n. n.now) l.names.keys;
  given : All (IsGivenValue l.entries) (map (λ n. n.now) l.name-iterator);
  origins : All (IsOrigin l.version l.entries) l.from.items;
}
