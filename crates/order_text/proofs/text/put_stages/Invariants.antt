use Rattle.std.proofs.Common.{◌≡◌, ◌++◌, map}
use Rattle.lemmas.specs.Lists.{numbers_from}
use Rattle.report_text.specs.Texts.{lines_text}
use Rattle.order_text.specs.Texts.{stage_line}
use Rattle.order_text.proofs.text.put_stages.Given as goal

-- the stages so far
abbrev pub invariant-loop-below : goal.invariant-loop-below
invariant-loop-below l =
    l.text.items ≡ l.initial.text.items ++ lines_text (map (stage_line l.stages) (numbers_from 1 l.below))
