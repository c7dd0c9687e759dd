use Rattle.turn_laws.proofs.DreamListLemmas.{list_supported}
use Rattle.turn_laws.proofs.dreams.lists_have_support.Goals as goal

pub returns : goal.returns
returns c = λ task known notes tried depth list so. list_supported task known notes tried depth list so
