use Rattle.std.proofs.Common.{[], arith}
use Rattle.turn_laws.specs.Modes.{TurnOf, nothing_kept}
use Rattle.turn_laws.proofs.ModeCountsLemmas.{turn_keeps, turns_keep}
use Rattle.turn_laws.proofs.ModesLemmas.{as_family}
use Rattle.turn_laws.proofs.modes.calls_are_kept.Goals as goal

pub returns : goal.returns
returns c = λ limits task entries stage turns.
    turns_keep limits task (TurnOf limits.mode limits task) (turn_keeps limits task limits.mode) nothing_kept [] entries stage
    (as_family limits.mode limits task entries stage turns) (omega arith)
