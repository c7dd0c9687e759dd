use Rattle.turn_laws.proofs.DreamNamesFreeLemmas.{valid_same}
use Rattle.turn_laws.proofs.dreams.plans_ignore_names.Goals as goal

pub returns : goal.returns
returns c = λ task known names steps cost valid. valid_same known names task steps cost valid
