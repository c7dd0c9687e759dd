use Rattle.stream_map.proofs.LawsLemmas.{texts_keep}
use Rattle.stream_map.proofs.laws.texts_keep_pools_whole.Goals as goal

pub returns : goal.returns
returns c = texts_keep
