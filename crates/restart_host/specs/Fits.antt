-- How what is kept of a child agrees with where it stands in the host below.
use Rattle.std.specs.Prelude.{◌≡◌, ℕ, ◌+◌, ◌-◌, ◌<◌, ◌≤◌, true, false, List, [], ◌++◌, length, take}
use Rattle.gen_lines.specs.Lines.{lines_of, unfinished}
use Rattle.io_world.specs.Replies.{IsLine}
use Rattle.restart_host.specs.Lines.{due_length}
use Rattle.restart_host.specs.Lives.{Moment}
use Rattle.restart_host.specs.declared.kept.Life.{Life}
use Rattle.gen_lines.specs.declared.line_buf.TheConstants.{LINE_BYTES}

-- what was handed out of the bytes that were read since its start: all but those that are held
abbrev pub handed : Life → Moment → List ℕ
handed life m = take (length m.talk.heard - length life.held) m.talk.heard

-- the requests that were written since its start and are answered: all bytes but those that wait
abbrev pub answered : List ℕ → Moment → List ℕ
answered asked m = take (length m.talk.written - length asked) m.talk.written

-- It runs there. It was written the requests that are answered, each of which is whole, and those that wait; as many
-- lines of it were handed out, and then the part of a line that was handed out last.
pub record IsUp (before asked : List ℕ) (life : Life) (m : Moment) : Type 0 where
  pub heard : m.talk.heard ≡ handed life m ++ life.held
  pub written : m.talk.written ≡ answered asked m ++ asked
  pub closed : unfinished (answered asked m) ≡ []
  pub even : length (lines_of (answered asked m)) ≡ length (lines_of (handed life m))
  pub part : length before < LINE_BYTES → unfinished (handed life m) ≡ before
  pub due : 0 < life.due → life.due ≡ due_length life.held
  pub full : length before < LINE_BYTES → 0 < life.due → IsLine life.held
      → length before + length life.held ≡ LINE_BYTES

-- This part of a line was handed out, and these requests wait for an answer. It runs there, or has fallen; part of a
-- line is handed out only where a request waits and the rest of it is due, or as many bytes as a line may have.
pub record Fits (before asked : List ℕ) (life : Life) (m : Moment) : Type 0 where
  pub fallen : life.alive ≡ false → m.fallen ≡ true
  pub up : life.alive ≡ true → IsUp before asked life m
  pub idle : IsLine asked → before ≡ []
  pub begun : length before < LINE_BYTES → life.due ≡ 0 → before ≡ []
  pub most : length before < LINE_BYTES → length before + life.due ≤ LINE_BYTES
