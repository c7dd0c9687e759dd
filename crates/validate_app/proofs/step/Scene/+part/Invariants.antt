use Rattle.std.proofs.Common.{◌≡◌, ◌+◌, ◌*◌, drop}
use Rattle.formula_memo.specs.Remembered.{StandsFor}
use Rattle.task_model.specs.Condition.{parts_of, size_of, sizes_of}
use Rattle.validate_app.specs.Parts.{false_among, holds_with}
use Rattle.validate_app.proofs.step.Scene.+part.Given as goal

abbrev pub decreases-false_part : goal.decreases-false_part
decreases-false_part l = 2 * size_of l.formula.now

abbrev pub decreases-false_among : goal.decreases-false_among
decreases-false_among l = 2 * sizes_of (parts_of l.parts.now) + 1

-- what is left to judge decides
abbrev pub invariant-false_among-loop-part : goal.invariant-false_among-loop-part
invariant-false_among-loop-part l = record {
  left : false_among (holds_with l.self.task.now l.self.facts.now.known l.state l.initial.env)
      (parts_of (drop l.part-index l.parts)) l.whole
      ≡ false_among (holds_with l.self.task.now l.self.facts.now.known l.state l.initial.env)
      (parts_of l.parts) l.whole;
  same : l.env ≡ l.initial.env;
  stands : StandsFor l.self.task.now.domain l.self.facts.now.known l.state l.memo;
}
