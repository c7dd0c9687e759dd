use Rattle.std.proofs.Common.{◌≡◌, ℕ, true, ◌⊎◌, List, Bor, All, None, Some, map}
use Rattle.transcript_model.specs.Names.{generated}
use Rattle.shown_plan.proofs.sources.sought.Given as goal
use Rattle.shown_plan.specs.Sources.{found_in, is_among, is_generated}

-- each value is in the table or is still to come
abbrev pub invariant-loop-name : goal.invariant-loop-name
invariant-loop-name l = record {
  hashed : All (λ n. is_generated n ≡ true) (map (λ (n : Bor (List ℕ)). n.now) l.name-iterator);
  each : (value : List ℕ) → is_among (map (λ (n : Bor (List ℕ)). n.now) l.names.keys) (generated value) ≡ true
      → (found_in (λ (k : Bor (List ℕ)). k.now) l.sources value ≡ Some None)
      ⊎ (is_among (map (λ (n : Bor (List ℕ)). n.now) l.name-iterator) (generated value) ≡ true);
}
