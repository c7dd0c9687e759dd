-- What the grid answers, as a table of answers.
use Rattle.std.specs.Prelude.{ℕ, List, [], ◌∷◌, ◌++◌, codes}
use Rattle.std.specs.Fmt.{decimal}
use Rattle.gen_lines.specs.Reply.{Reply, ends, yields}
use Rattle.grid_text.specs.Grids.{GridFile}
use Rattle.grid_world.specs.Answers.{answer_to}
use Rattle.grid_world.specs.Asks.{ask_to}
use Rattle.grid_world.specs.Words.{served_stream}
use Rattle.grid_world.specs.declared.answer.GridAnswer.{GridAnswer}
use Rattle.grid_world.specs.declared.answer.GridAnswer.TheVariants as answer
use Rattle.grid_world.specs.declared.answer.Side.{Side}
use Rattle.grid_world.specs.declared.answer.Side.TheVariants.{N, E, S, W}
use Rattle.transcript_model.specs.Tables.{Answers}

abbrev pub side_value : Side → List ℕ
side_value N = codes "n"
side_value E = codes "e"
side_value S = codes "s"
side_value W = codes "w"

-- an answer as what a line says: one tuple, of one value or of none, or that nothing more comes
abbrev pub reply_of_answer : GridAnswer → Reply
reply_of_answer (answer.Pose x y) = yields 1 ((decimal x ++ codes "," ++ decimal y) ∷ [])
reply_of_answer (answer.Side side) = yields 1 (side_value side ∷ [])
reply_of_answer (answer.Hand x y) = yields 1 ((codes "h" ++ decimal x ++ codes "," ++ decimal y) ∷ [])
reply_of_answer answer.Yes = yields 1 []
reply_of_answer answer.End = ends

-- What the grid answers to a call after so many tuples: the member at this place of the list of its answers to the
-- stream and the inputs, from 0; past the last, and to a stream that it doesn't serve, that nothing more comes.
abbrev pub grid_replies : GridFile → Answers
grid_replies grid call turn = reply_of_answer (answer_to grid (ask_to turn call.args (served_stream call.name)))
