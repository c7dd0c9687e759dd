use Rattle.std.proofs.Common.{◌∙◌, ap}
use Rattle.course_check.proofs.BatchAgendasLemmas.{asked_on}
use Rattle.course_check.specs.BatchAgendas.{with_asked}
use Rattle.course_check.proofs.batch.BatchCourse.ask.Goals as goal

pub returns : goal.returns
returns c = asked_on c.self.inside ∙ ap with_asked c.self.view_is
