use Rattle.std.proofs.Common.{ap, subst}
use Rattle.course_check.specs.BatchAgendas.{Agenda, IsAnswered}
use Rattle.course_check.specs.Agendas.{ModeAgenda, with_agenda}
use Rattle.pools.specs.Pools.{shares_of}
use Rattle.course_check.proofs.course.ModeCourse.answer.Goals as goal

pub returns-clause-batch : goal.returns-clause-batch
returns-clause-batch c =
    subst (λ (b : Agenda). IsAnswered (shares_of c.args.pools.now) b c.answer.new.self)
    (ap (λ (a : ModeAgenda). a.batch) c.self.view_is)
    c.answer.ensures

pub returns-clause-rest : goal.returns-clause-rest
returns-clause-rest c = ap (λ (a : ModeAgenda). with_agenda a c.answer.new.self) c.self.view_is
