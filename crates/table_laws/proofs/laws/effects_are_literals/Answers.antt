use Rattle.table_laws.proofs.ChangedLemmas.{literals_changed}
use Rattle.table_laws.proofs.laws.effects_are_literals.Goals as goal

pub returns : goal.returns
returns c = literals_changed
