use Rattle.std.proofs.Common.{◌≡◌, ℕ, ◌<◌, ◌≤◌, nat_lt, get_or, take}
use Rattle.std.specs.List.{list_any}
use Rattle.grid_world.specs.Covers.{reaches}
use Rattle.grid_world.proofs.cover.spread.Given as goal

abbrev pub invariant-loop-end : goal.invariant-loop-end
invariant-loop-end l = record {
  furthest : (c : ℕ) → nat_lt c l.furthest ≡ list_any (λ (e : ℕ). nat_lt c e) (take l.end-index l.initial.ends);
  done : (k : ℕ) → k < l.end-index → nat_lt k (get_or l.ends k 0) ≡ reaches l.initial.ends k;
  rest : (k : ℕ) → l.end-index ≤ k → get_or l.ends k 0 ≡ get_or l.initial.ends k 0;
}
