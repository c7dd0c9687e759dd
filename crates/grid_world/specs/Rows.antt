-- What is found in a row of poses.
use Rattle.std.specs.Prelude.{◌≡◌, ℕ, List, ◌++◌}
use Rattle.grid_world.specs.Answers.{nth}
use Rattle.grid_world.specs.declared.answer.GridAnswer.{GridAnswer}
use Rattle.grid_world.specs.declared.place.InRow.{InRow}
use Rattle.grid_world.specs.declared.place.InRow.TheVariants.{Here, Left}

-- the answer, if it was found, and else the one behind the row at the number that is left
abbrev pub answer_behind : List GridAnswer → InRow → GridAnswer
answer_behind more (Here answer) = answer
answer_behind more (Left k) = nth k more

-- whatever poses come behind the row, the answer at a place among all is what was found
abbrev pub IsPoseRow : List GridAnswer → ℕ → InRow → Type 0
IsPoseRow row k found = (more : List GridAnswer) → nth k (row ++ more) ≡ answer_behind more found
