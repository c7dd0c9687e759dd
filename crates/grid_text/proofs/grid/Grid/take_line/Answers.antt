use Rattle.std.proofs.Common.{sym, ◌∙◌}
use Rattle.grid_text.proofs.RightLinesLemmas.{right_item}
use Rattle.grid_text.proofs.grid.Grid.take_line.Goals as goal

pub add-requires : goal.add-requires
add-requires c =
    (right_item c.args.self.now c.args.line.now c.in-Ok-Some.item c.in-Ok-Some.ensures.0
    (sym c.in-Ok-Some.ensures.1 ∙ c.in-Ok-Some.field-0-is)).inside
