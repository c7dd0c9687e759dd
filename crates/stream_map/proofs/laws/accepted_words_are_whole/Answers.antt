use Rattle.stream_map.proofs.LawsLemmas.{accepted_words}
use Rattle.stream_map.proofs.laws.accepted_words_are_whole.Goals as goal

pub returns : goal.returns
returns c = accepted_words
