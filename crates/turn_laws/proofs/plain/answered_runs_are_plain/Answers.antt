use Rattle.turn_laws.proofs.PlainTurnsLemmas.{as_plain}
use Rattle.turn_laws.proofs.plain.answered_runs_are_plain.Goals as goal

pub returns : goal.returns
returns c = λ limits task answers entries stage o fit run known_end. as_plain limits task fit answers entries stage o run known_end
