use Rattle.std.proofs.Common.{Bor, List, ℕ, map, take}
use Rattle.shown_plan.proofs.sources.sources_of.Given as goal
use Rattle.shown_plan.specs.Sources.{AreSources}

abbrev pub invariant-loop-entry : goal.invariant-loop-entry
invariant-loop-entry l =
    AreSources (λ (k : Bor (List ℕ)). k.now) (map (λ (n : Bor (List ℕ)). n.now) l.names.keys) (take l.entry-index l.entries) l.sources
