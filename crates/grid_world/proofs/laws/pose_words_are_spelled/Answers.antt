use Rattle.grid_world.proofs.WordsLemmas.{pose_words_are_spelled}
use Rattle.grid_world.proofs.laws.pose_words_are_spelled.Goals as goal

pub returns : goal.returns
returns c = pose_words_are_spelled
