use Rattle.turn_laws.proofs.PlainOneLemmas.{runs_once}
use Rattle.turn_laws.proofs.plain.plain_runs_are_one.Goals as goal

pub returns : goal.returns
returns c = runs_once
