-- The four texts of the grid task of each number.
use Rattle.std.specs.Prelude.{ℕ, ◌*◌, ◌-◌, List, [], ◌∷◌, ◌++◌, codes}
use Rattle.std.specs.Fmt.{decimal}
use Rattle.std.specs.List.{concat, flat_map}
use Rattle.lemmas.specs.Lists.{numbers_from}
use Rattle.grid_text.specs.declared.task.GridTask.{GridTask}
use Rattle.grid_text.specs.declared.task.Row.{Row}
use Rattle.grid_text.specs.declared.task.Row.TheVariants as row
use Rattle.grid_text.specs.declared.task.TheConstants.{DOMAIN, STREAMS}

-- that the region fits the block, that the block's first pose is one of its poses, and that it is there
abbrev pub facts_text : ℕ → List ℕ
facts_text i =
    concat (codes " (fits b" ∷ decimal i ∷ codes " r" ∷ decimal i ∷ codes ")" ∷ [])
    ++ concat (codes " (pose b" ∷ decimal i ∷ codes " home-b" ∷ decimal i ∷ codes ")" ∷ [])
    ++ concat (codes " (at b" ∷ decimal i ∷ codes " home-b" ∷ decimal i ∷ codes ")" ∷ [])

-- what is written for a number
abbrev pub item_text : Row → ℕ → List ℕ
item_text row.Blocks i = codes " b" ++ decimal i
item_text row.Regions i = codes " r" ++ decimal i
item_text row.Homes i = codes " home-b" ++ decimal i
item_text row.Facts i = facts_text i
item_text row.Goals i =
    concat (codes " (placed b" ∷ decimal i ∷ codes " r" ∷ decimal i ∷ codes ")" ∷ [])
item_text row.BlockLines i =
    concat (codes "block b" ∷ decimal i ∷ codes " 1 1 " ∷ decimal (2 * i - 2) ∷ codes " 1\n" ∷ [])
item_text row.RegionLines i =
    concat (codes "region r" ∷ decimal i ∷ codes " " ∷ decimal (2 * i - 2) ∷ codes " 4 2 1\n" ∷ [])
item_text row.ObstacleLines i =
    concat (codes "obstacle " ∷ decimal (2 * i - 2) ∷ codes " 4 1 1\n" ∷ [])

-- the same for the numbers from 1 up to this one
unfoldable pub row_text : Row → ℕ → List ℕ
row_text row number = flat_map (item_text row) (numbers_from 1 number)

abbrev pub problem_text : ℕ → List ℕ
problem_text number =
    codes "(define (problem grid-" ++ decimal number ++ codes ") (:domain grid)\n  (:objects"
    ++ row_text row.Blocks number ++ codes " - block"
    ++ row_text row.Regions number ++ codes " - region"
    ++ row_text row.Homes number ++ codes " - pose)\n  (:init (free)"
    ++ row_text row.Facts number ++ codes ")\n  (:goal (and"
    ++ row_text row.Goals number ++ codes ")))\n"

-- blocks stand one cell above the bottom, two cells apart; their regions of two cells lie three cells further up, with
-- an obstacle on the first of the two
abbrev pub grid_text : ℕ → List ℕ
grid_text number =
    codes "grid " ++ decimal (2 * number) ++ codes " 6\n"
    ++ row_text row.BlockLines number ++ row_text row.RegionLines number ++ row_text row.ObstacleLines number

-- the task of a number
abbrev pub grid_task : ℕ → GridTask
grid_task number = record {
  domain = DOMAIN.now;
  problem = problem_text number;
  streams = STREAMS.now;
  grid = grid_text number;
}
