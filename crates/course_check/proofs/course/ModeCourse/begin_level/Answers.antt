use Rattle.std.proofs.Common.{refl, ap}
use Rattle.course_check.specs.Agendas.{ModeAgenda}
use Rattle.course_check.proofs.course.ModeCourse.begin_level.Goals as goal

pub returns : goal.returns
returns c = record {
  batch = c.begin.ensures;
  phase_is = refl;
  kept_is = ap (λ (a : ModeAgenda). a.kept) c.self.view_is;
}
