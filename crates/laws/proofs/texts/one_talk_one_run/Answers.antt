use Rattle.laws.proofs.TextTalkLemmas.{one_talk}
use Rattle.laws.proofs.texts.one_talk_one_run.Goals as goal

pub returns : goal.returns
returns c = one_talk
