use Rattle.table_laws.proofs.DomainLemmas.{names_declared}
use Rattle.table_laws.proofs.laws.domain_names_are_declared.Goals as goal

pub returns : goal.returns
returns c = names_declared
