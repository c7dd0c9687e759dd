use Rattle.std.proofs.Common.{◌∙◌, ap}
use Rattle.course_check.specs.BatchAgendas.{Agenda, with_asked}
use Rattle.course_check.specs.Agendas.{ModeAgenda, shown_mode, with_agenda}
use Rattle.course_check.proofs.course.ModeCourse.ask.Goals as goal

pub returns : goal.returns
returns c =
    ap (λ (b : Agenda). with_agenda (shown_mode c.self.inside) b) c.ask.ensures
    ∙ ap (λ (a : ModeAgenda). with_agenda a (with_asked a.batch)) c.self.view_is
