-- How bytes come from a source.
use Rattle.std.specs.Prelude.{◌≡◌, ℕ, ◌<◌, ◌≤◌, List, ◌++◌, length, position, Option, Some, None}
use Rattle.std.specs.Io.KnownBytes.{Consumes, IsAtEnd}
use Rattle.io_world.specs.Faults.{last_count, Rose}
use Rattle.gen_lines.specs.Lines.{is_feed}
use Rattle.grid_world.specs.declared.held.Filled.{Filled}
use Rattle.grid_world.specs.declared.held.Filled.TheVariants.{Line, End, TooLong, Failed}

-- so many bytes more are held, which the source had next; none only where it has ended
pub record HoldsMore (n : ℕ) (before after : Option (List ℕ)) (old new : List ℕ) : Type 0 where
  pub more : List ℕ
  pub held : new ≡ old ++ more
  pub count : length more ≡ n
  pub from : Consumes before after more
  pub ended : n ≡ 0 → IsAtEnd after

-- the bytes that the source had next are held behind those that were
pub record Came (before after : Option (List ℕ)) (old new : List ℕ) : Type 0 where
  pub more : List ℕ
  pub held : new ≡ old ++ more
  pub from : Consumes before after more

-- how the wait ended, by what is held and what is left
abbrev pub FillsSo : List ℕ → Option (List ℕ) → Filled → Type 0
FillsSo held left (Line end) = (position is_feed held ≡ Some end) × (end < 4097)
FillsSo held left End = (position is_feed held ≡ None) × IsAtEnd left × (length held < 4097)
FillsSo held left TooLong = (position is_feed held ≡ None) × (length held ≡ 4097)
FillsSo held left Failed = (position is_feed held ≡ None) × (length held < 4097)

-- the count of faults never falls, and it rose where the source failed
pub record IsCaused (before after : ℕ) (filled : Filled) : Type 0 where
  pub later : before ≤ after
  pub cause : filled ≡ Failed → Rose last_count before after
