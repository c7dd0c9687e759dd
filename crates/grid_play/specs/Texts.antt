-- How a plan that was acted out is written (the forms are this project's).
use Rattle.std.specs.Prelude.{ℕ, List, [], ◌∷◌, ◌++◌, codes, map}
use Rattle.std.specs.Fmt.{decimal}
use Rattle.report_text.specs.Texts.{Line, line, lines_text}
use Rattle.grid_play.specs.declared.play.Mark.{Mark}
use Rattle.grid_play.specs.declared.play.Mark.TheVariants.{Held, Placed}
use Rattle.grid_play.specs.declared.play.Play.{Play}
use Rattle.grid_play.specs.declared.play.PlayVerdict.{PlayVerdict}
use Rattle.grid_play.specs.declared.play.PlayVerdict.TheVariants.{Safe, Strange, Outside, Obstacle, Clash}

-- `held I B`, `at I B X Y`
abbrev pub mark_line : Mark → Line
mark_line (Held i block) = line (codes "held") (decimal i ∷ block ∷ [])
mark_line (Placed i block x y) = line (codes "at") (decimal i ∷ block ∷ decimal x ∷ decimal y ∷ [])

-- `safe`, `strange I`, `outside I B`, `obstacle I B`, `clash I B C`
abbrev pub verdict_line : PlayVerdict → Line
verdict_line Safe = line (codes "safe") []
verdict_line (Strange i) = line (codes "strange") (decimal i ∷ [])
verdict_line (Outside i block) = line (codes "outside") (decimal i ∷ block ∷ [])
verdict_line (Obstacle i block) = line (codes "obstacle") (decimal i ∷ block ∷ [])
verdict_line (Clash i first second) = line (codes "clash") (decimal i ∷ first ∷ second ∷ [])

-- a line for each mark, the verdict, and `done`
abbrev pub play_text : Play → List ℕ
play_text play =
    lines_text (map mark_line play.marks ++ verdict_line play.verdict ∷ line (codes "done") [] ∷ [])
