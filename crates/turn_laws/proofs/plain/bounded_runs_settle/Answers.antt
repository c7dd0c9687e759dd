use Rattle.turn_laws.proofs.PlainSettledLemmas.{settled}
use Rattle.turn_laws.proofs.plain.bounded_runs_settle.Goals as goal

pub returns : goal.returns
returns c = λ limits task answers entries o fit agrees closed claim bounded few.
    settled limits task answers entries fit agrees closed bounded few o claim
