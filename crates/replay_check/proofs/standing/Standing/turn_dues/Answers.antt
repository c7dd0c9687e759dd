use Rattle.std.proofs.Common.{◌≡◌, ◌<◌, length, arith}
use Rattle.std.proofs.lemmas.Grind.{common_steps}
use Rattle.transcript_model.specs.Legal.{asks_of}
use Rattle.replay_check.specs.Standings.{limits_by}
use Rattle.replay_check.proofs.DueLemmas.{due_for, many_begin, none_begins}
use Rattle.replay_check.proofs.standing.Standing.turn_dues.Goals.{in_default-via-in-Some+else-not-is_empty, in_default-via-in_default}
use Rattle.replay_check.proofs.standing.Standing.turn_dues.Goals as goal

pub returns-in-Some-clause-some : goal.returns-in-Some-clause-some
returns-in-Some-clause-some c = λ entries s.
    let b = c.args.bounds.now in
    let self = c.args.self.now in
    let turn = rw c.in-Some.is at c.in_ok-dues.ensures.some in
    let some : 0 < length c.in-Some.dues.items = grind (arith, common_steps) in
    let left : asks_of entries < b.calls =
    omega (arith, c.if-len-bounds.false, c.len.ensures, self.knowledge.asked.ok, s.knowledge.counted) in
    due_for (limits_by b) b.task.now entries self.knowledge self.course s c.in-Some.dues.items turn some left

pub returns-in_default-clause-none : goal.returns-in_default-clause-none
returns-in_default-clause-none c = λ entries s.
    let b = c.args.bounds.now in
    let self = c.args.self.now in
    elim c.in_default.branch [
      | in_default-via-in-Some+else-not-is_empty w ↦
          let turn = rw w.in-Some.is at c.in_ok-dues.ensures.some in
          let empty : length w.in-Some.dues.items ≡ 0 = grind (arith, common_steps) in
          none_begins (limits_by b) b.task.now entries self.knowledge self.course s w.in-Some.dues.items turn empty
      | in_default-via-in_default w ↦
          many_begin (limits_by b) b.task.now entries self.knowledge self.course s (rw w.in_default.is at c.in_ok-dues.ensures.none)
    ]
