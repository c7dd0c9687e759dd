use Rattle.std.proofs.Common.{[], length, arith}
use Rattle.course_check.proofs.StepsLemmas.{at_first_rest}
use Rattle.course_check.proofs.TurnedLemmas.{turned}
use Rattle.course_check.specs.Places.{at_start}
use Rattle.turn_laws.proofs.ModesLemmas.{of_mode}
use Rattle.course_check.proofs.laws.courses_are_turns.Goals as goal

pub returns : goal.returns
returns c = λ limits task entries p workers leads.
    let t = turned limits task workers (length entries) [] entries at_start p (omega arith) at_first_rest leads in
    (t.stage, t.at, of_mode limits.mode limits task entries t.stage t.turns)
