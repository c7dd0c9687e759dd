use Rattle.std.proofs.Common.{[], length, refl, arith}
use Rattle.course_check.proofs.CoursesTurnLemmas.{turned}
use Rattle.course_check.specs.Courses.{course_at_first}
use Rattle.course_check.proofs.laws.level_courses_are_turns.Goals as goal

pub returns : goal.returns
returns c = λ limits task entries d workers leads.
    let t = turned limits task (length entries) workers [] entries course_at_first d (omega arith) refl refl (λ none. (refl, refl)) leads in
    (t.stage, t.at, t.turns)
