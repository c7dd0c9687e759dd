use Rattle.std.proofs.Common.{◌≡◌, true, take}
use Rattle.std.specs.List.{list_all}
use Rattle.formula_memo.specs.Remembered.{StandsFor}
use Rattle.task_model.specs.Truth.{slots_of}
use Rattle.grounder.specs.Candidates.{is_part_open}
use Rattle.grounder.proofs.steps.Scene.can_go.Given as goal

-- the parts that were passed are true or static atoms, the slots have the arguments, and what is remembered is true
abbrev pub invariant-loop-place : goal.invariant-loop-place
invariant-loop-place g l =
    let known = g.L.Look.known l.self.look.now in
    (list_all (is_part_open l.self.task.now.domain known l.self.state.now (slots_of l.fn.args)) (take l.place l.part-items) ≡ true)
    × (l.env ≡ slots_of l.fn.args) × StandsFor l.self.task.now.domain known l.self.state.now l.memo
