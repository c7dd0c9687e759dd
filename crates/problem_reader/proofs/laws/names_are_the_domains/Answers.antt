use Rattle.problem_reader.proofs.TablesDomainLemmas.{names_are_known}
use Rattle.problem_reader.proofs.laws.names_are_the_domains.Goals as goal

pub returns : goal.returns
returns c = names_are_known
