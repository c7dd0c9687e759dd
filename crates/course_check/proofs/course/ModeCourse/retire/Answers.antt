use Rattle.std.proofs.Common.{ap}
use Rattle.course_check.specs.Agendas.{ModeAgenda, going_on}
use Rattle.course_check.specs.Places.{resting}
use Rattle.course_check.proofs.course.ModeCourse.retire.Goals as goal

pub returns : goal.returns
returns c = ap (λ (a : ModeAgenda). going_on a resting a.kept) c.self.view_is
