-- Clashes by the places of blocks, and how the least is found.
use Rattle.std.specs.Prelude.{◌≡◌, ◌≢◌, ℕ, ◌<◌, ◌⊎◌, Bool, true, not, ◌&&◌, ◌==◌, List, Option, Some, None}
use Rattle.std.specs.Option.{MatchOption}
use Rattle.std.specs.Ordering.{is_gt, is_lt}
use Rattle.std.specs.declared.cmp.Ordering.{Ordering}
use Rattle.std.specs.declared.cmp.Ordering.TheVariants.{Less}
use Rattle.grid_text.specs.Grids.{GridFile}
use Rattle.grid_play.specs.Faults.{FirstOverlap, Overlap, block_name, name_cmp, name_pair_cmp, share}
use Rattle.grid_play.specs.Worlds.{World}

-- two blocks aren't held and share a cell, and the first has no greater name
abbrev pub is_clash : GridFile → World → ℕ → ℕ → Bool
is_clash grid world one other =
    not (one == other) && share grid world one other
    && not (is_gt (name_cmp (block_name grid one) (block_name grid other)))

-- two blocks by their places
abbrev pub Places : Type 0
Places = ℕ × ℕ

-- pairs of blocks are compared by their names
abbrev pub places_cmp : GridFile → Places → Places → Ordering
places_cmp grid p q =
    name_pair_cmp (block_name grid p.0) (block_name grid p.1) (block_name grid q.0) (block_name grid q.1)

-- the pair comes before the other, or there is no other
abbrev pub is_before : GridFile → Places → Option Places → Bool
is_before grid pair None = true
is_before grid pair (Some other) = is_lt (places_cmp grid pair other)

-- the pair stands before these places, by the first and then by the second
abbrev pub StandsBeforePlaces : ℕ → ℕ → Places → Type 0
StandsBeforePlaces one other pair = (pair.0 < one) ⊎ ((pair.0 ≡ one) × (pair.1 < other))

-- It is a clash, and no clash before these places comes before it by its names.
pub record IsLeastBefore (grid : GridFile) (world : World) (one other : ℕ) (best : Places) : Type 0 where
  pub clash : is_clash grid world best.0 best.1 ≡ true
  pub least : (pair : Places) → StandsBeforePlaces one other pair → is_clash grid world pair.0 pair.1 ≡ true
      → places_cmp grid pair best ≢ Less

-- the least clash before these places, or that there is none
abbrev pub LeastBefore : GridFile → World → ℕ → ℕ → Option Places → Type 0
LeastBefore grid world one other best =
    MatchOption best
    ((pair : Places) → StandsBeforePlaces one other pair → is_clash grid world pair.0 pair.1 ≢ true)
    (IsLeastBefore grid world one other)

-- the first pair that overlaps, by places, or that none does
abbrev pub IsFirstClash : GridFile → World → Option Places → Type 0
IsFirstClash grid world result =
    MatchOption result ((a b : List ℕ) → ¬ (Overlap grid world a b))
    (λ (p : Places). FirstOverlap grid world (block_name grid p.0) (block_name grid p.1))
