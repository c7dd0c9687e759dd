use Rattle.stream_map.proofs.LawsLemmas.{accepted_maps}
use Rattle.stream_map.proofs.laws.accepted_maps_are_whole.Goals as goal

pub returns : goal.returns
returns c = accepted_maps
