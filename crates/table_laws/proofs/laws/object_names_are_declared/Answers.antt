use Rattle.table_laws.proofs.ObjectLemmas.{objects_declared}
use Rattle.table_laws.proofs.laws.object_names_are_declared.Goals as goal

pub returns : goal.returns
returns c = objects_declared
