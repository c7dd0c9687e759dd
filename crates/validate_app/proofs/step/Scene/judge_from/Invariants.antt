use Rattle.std.proofs.Common.{◌≤◌, ◌*◌, take}
use Rattle.validate_app.specs.Verdicts.{CallsLeadTo}
use Rattle.validate_app.proofs.step.Scene.judge_from.Given as goal

-- the steps so far were taken
abbrev pub invariant-loop-place : goal.invariant-loop-place
invariant-loop-place g l = record {
  leads : CallsLeadTo l.self.task.now l.self.facts.now.known (take l.place l.calls) (g.B.Board.atoms l.board) l.cost;
  small : l.cost ≤ 262144000000 * l.place;
}
