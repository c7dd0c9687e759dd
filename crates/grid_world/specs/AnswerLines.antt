-- Answers as lines.
use Rattle.std.specs.Prelude.{ℕ, List, [], ◌∷◌, ◌++◌, codes}
use Rattle.std.specs.Fmt.{decimal}
use Rattle.std.specs.Io.BufRead.{strip_last}
use Rattle.std.specs.List.{flat_map}
use Rattle.gen_lines.specs.Lines.{lines_of}
use Rattle.grid_text.specs.Grids.{GridFile}
use Rattle.grid_world.specs.Answers.{answer_in}
use Rattle.grid_world.specs.declared.answer.GridAnswer.{GridAnswer}
use Rattle.grid_world.specs.declared.answer.GridAnswer.TheVariants as answer
use Rattle.grid_world.specs.declared.answer.Side.{Side}
use Rattle.grid_world.specs.declared.answer.Side.TheVariants.{N, E, S, W}

abbrev pub side_line : Side → List ℕ
side_line N = codes "yield n"
side_line E = codes "yield e"
side_line S = codes "yield s"
side_line W = codes "yield w"

-- `yield` and its value, or `end`
abbrev pub line_of_answer : GridAnswer → List ℕ
line_of_answer (answer.Pose x y) = codes "yield " ++ decimal x ++ codes "," ++ decimal y
line_of_answer (answer.Side side) = side_line side
line_of_answer (answer.Hand x y) = codes "yield h" ++ decimal x ++ codes "," ++ decimal y
line_of_answer answer.Yes = codes "yield"
line_of_answer answer.End = codes "end"

-- the line of the answer to a request, with its line feed
unfoldable pub answer_to_line : GridFile → List ℕ → List ℕ
answer_to_line grid line = line_of_answer (answer_in grid line) ++ 10 ∷ []

-- The line of the answer to a request line, both without their line feed. A carriage return at the request's end is
-- dropped.
unfoldable pub reply_line : GridFile → List ℕ → List ℕ
reply_line grid request = line_of_answer (answer_in grid (strip_last 13 request))

-- The answers to these lines.
abbrev pub replies_to : GridFile → List (List ℕ) → List ℕ
replies_to grid lines = flat_map (answer_to_line grid) lines

-- The answers to the lines of these bytes.
abbrev pub answers_text : GridFile → List ℕ → List ℕ
answers_text grid bytes = replies_to grid (lines_of bytes)
