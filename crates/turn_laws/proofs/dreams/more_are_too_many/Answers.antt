use Rattle.turn_laws.proofs.DreamListLemmas.{more_come}
use Rattle.turn_laws.proofs.dreams.more_are_too_many.Goals as goal

pub returns : goal.returns
returns c = λ most task known notes tried depth list more so. more_come task known notes tried most depth list more so
