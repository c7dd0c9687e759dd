use Rattle.std.proofs.Common.{arith}
use Rattle.course_check.proofs.BatchAgendasLemmas.{none_to_ask, some_to_answer}
use Rattle.course_check.proofs.batch.BatchCourse.next_answered.Goals as goal
use Rattle.course_check.proofs.batch.BatchCourse.next_answered.Goals.{else-self-via-then-self+else-self-2, else-self-via-else-self}

pub returns-else-self-clause-none : goal.returns-else-self-clause-none
returns-else-self-clause-none c = λ waits.
    let asked = none_to_ask c.self.inside c.args.self.now c.self.invariant c.self.view_is waits.0 in
    let some = some_to_answer c.self.inside c.args.self.now c.self.view_is waits.1 in
    elim c.else-self.branch [
      | else-self-via-then-self+else-self-2 w ↦ absurd (omega (arith, w.if-self-2.false, some))
      | else-self-via-else-self w ↦ absurd (omega (arith, w.if-self.false, asked))
    ]
