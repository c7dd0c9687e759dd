use Rattle.laws.proofs.TextMadeTalkLemmas.{one_made_talk}
use Rattle.laws.proofs.texts.one_talk_one_made_run.Goals as goal

pub returns : goal.returns
returns c = one_made_talk
