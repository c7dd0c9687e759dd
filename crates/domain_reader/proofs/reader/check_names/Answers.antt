use Rattle.domain_reader.proofs.DomainsLeastLemmas.{all_names}
use Rattle.domain_reader.proofs.reader.check_names.Goals as goal

pub returns : goal.returns
returns c =
    all_names _ _ c.in_ok-plain.plain c.in_ok-types.types c.in_ok-answered.answered c.in_ok-plain.ensures c.in_ok-types.ensures
    c.in_ok-answered.ensures
