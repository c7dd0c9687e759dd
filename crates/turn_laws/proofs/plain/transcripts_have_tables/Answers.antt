use Rattle.turn_laws.proofs.OwnLemmas.{own_agrees, own_table}
use Rattle.turn_laws.proofs.plain.transcripts_have_tables.Goals as goal

pub returns : goal.returns
returns c = λ version task entries fit legal. (own_table version task entries fit legal, own_agrees version task entries fit legal)
