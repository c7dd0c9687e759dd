use Rattle.std.proofs.Common.{[]}
use Rattle.course_check.proofs.StepsLemmas.{leads_on_once}
use Rattle.course_check.specs.Places.{at_start}
use Rattle.course_check.proofs.laws.courses_are_one.Goals as goal

pub returns : goal.returns
returns c = λ limits task entries p q first second. leads_on_once limits task at_start [] entries p q first second
