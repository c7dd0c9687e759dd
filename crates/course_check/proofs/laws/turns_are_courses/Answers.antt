use Rattle.std.proofs.Common.{[], refl}
use Rattle.course_check.proofs.TurnsLemmas.{turns_lead}
use Rattle.course_check.proofs.StepsLemmas.{at_first_rest}
use Rattle.course_check.specs.Places.{at_start}
use Rattle.turn_laws.proofs.ModesLemmas.{as_family}
use Rattle.turn_laws.specs.Modes.{nothing_kept}
use Rattle.course_check.proofs.laws.turns_are_courses.Goals as goal

pub returns : goal.returns
returns c = λ limits task entries stage turns.
    let to =
    turns_lead limits task nothing_kept [] entries stage at_start
    (as_family limits.mode limits task entries stage turns) refl at_first_rest in
    (to.last, to.leads, to.at)
