-- How the order of a plan is written (the form is this project's).
use Rattle.std.specs.Prelude.{ℕ, List, [], ◌∷◌, ◌++◌, map, filter, length, codes, ◌==◌}
use Rattle.std.specs.Fmt.{decimal}
use Rattle.lemmas.specs.Lists.{numbers_from}
use Rattle.plan_deorder.specs.Orders.{Pair, greatest, stage_at}
use Rattle.plan_deorder.specs.declared.order.Order.{Order}
use Rattle.report_text.specs.Texts.{Line, do_line, done_line, line, lines_text}
use Rattle.transcript_model.specs.declared.entry.Call.{Call}

-- how many steps, pairs and stages there are; the stages are as many as the greatest
abbrev pub order_line : List Call → Order → Line
order_line calls order =
    line (codes "order") (decimal (length calls) ∷ decimal (length order.pairs) ∷ decimal (greatest order.stages) ∷ [])

-- that the one step stays before the other
abbrev pub before_line : Pair → Line
before_line pair = line (codes "before") (decimal pair.0 ∷ decimal pair.1 ∷ [])

-- the numbers of the steps of this stage, ascending
abbrev pub steps_of_stage : List ℕ → ℕ → List ℕ
steps_of_stage stages stage = filter (λ n. stage_at stages n == stage) (numbers_from 1 (length stages))

abbrev pub stage_line : List ℕ → ℕ → Line
stage_line stages stage = line (codes "stage") (decimal stage ∷ map decimal (steps_of_stage stages stage))

-- the counts, the steps as a report shows them, the pairs, the stages, and `done`
abbrev pub order_lines : List Call → Order → List Line
order_lines calls order =
    order_line calls order ∷ map do_line calls ++ (map before_line order.pairs
    ++ (map (stage_line order.stages) (numbers_from 1 (greatest order.stages)) ++ done_line ∷ []))

abbrev pub order_text : List Call → Order → List ℕ
order_text calls order = lines_text (order_lines calls order)
