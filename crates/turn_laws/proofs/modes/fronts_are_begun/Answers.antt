use Rattle.std.proofs.Common.{[], take}
use Rattle.turn_laws.specs.Modes.{TurnOf, nothing_kept}
use Rattle.turn_laws.proofs.ModeFrontsLemmas.{front_turns}
use Rattle.turn_laws.proofs.ModesLemmas.{as_family, of_mode}
use Rattle.turn_laws.proofs.modes.fronts_are_begun.Goals as goal

pub returns : goal.returns
returns c = λ limits task entries stage k turns.
    let front =
    front_turns limits task (TurnOf limits.mode limits task) nothing_kept [] entries stage
    (as_family limits.mode limits task entries stage turns) k in
    (front.0, of_mode limits.mode limits task (take k entries) front.0 front.1)
