use Rattle.course_check.proofs.CoursesLemmas.{leads_once}
use Rattle.course_check.specs.Courses.{course_at_first}
use Rattle.std.proofs.Common.{[]}
use Rattle.course_check.proofs.laws.level_courses_are_one.Goals as goal

pub returns : goal.returns
returns c = λ limits task entries a b first second. leads_once limits task course_at_first [] entries a b first second
