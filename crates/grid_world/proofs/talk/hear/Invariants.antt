use Rattle.std.proofs.Common.{◌≡◌, ℕ, List, take}
use Rattle.gen_lines.specs.Lines.{unfinished}
use Rattle.grid_world.specs.Sessions.{SessionGoesOn}
use Rattle.grid_world.proofs.talk.hear.Given as goal

abbrev pub invariant-loop-byte : goal.invariant-loop-byte
invariant-loop-byte l =
    (written : List ℕ) → unfinished written ≡ l.left
    → SessionGoesOn l.grid written (take l.byte-index l.bytes) l.heard.begun.items l.heard.answers.items
