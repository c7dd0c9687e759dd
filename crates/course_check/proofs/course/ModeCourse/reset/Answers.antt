use Rattle.std.proofs.Common.{◌∙◌, List, ap}
use Rattle.course_check.specs.Agendas.{ModeAgenda, going_on, shown_mode}
use Rattle.course_check.specs.Places.{forgetting, resting}
use Rattle.skeletons.specs.Skeletons.{skeletons_in}
use Rattle.task_model.specs.declared.stream.Instance.{Instance}
use Rattle.course_check.proofs.course.ModeCourse.reset.Goals as goal

pub returns : goal.returns
returns c =
    let s = c.self.inside in
    ap (λ (tried : List Instance).
    going_on (shown_mode s) resting (record { tried = tried; skeletons = skeletons_in s.skeletons.items })) c.clear.ensures
    ∙ ap (λ (a : ModeAgenda). going_on a resting (forgetting a.kept)) c.self.view_is
