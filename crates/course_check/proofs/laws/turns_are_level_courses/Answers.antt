use Rattle.std.proofs.Common.{[], refl}
use Rattle.course_check.proofs.CoursesStepLemmas.{turns_lead}
use Rattle.course_check.specs.Courses.{course_at_first}
use Rattle.course_check.proofs.laws.turns_are_level_courses.Goals as goal

pub returns : goal.returns
returns c = λ limits task entries stage turns.
    let to = turns_lead limits task tt [] entries stage course_at_first turns refl refl in
    (to.last, to.leads, to.at)
