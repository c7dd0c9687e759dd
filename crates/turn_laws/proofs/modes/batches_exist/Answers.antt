use Rattle.turn_laws.proofs.ModeBatchesLemmas.{batches_end}
use Rattle.turn_laws.proofs.modes.batches_exist.Goals as goal

pub returns : goal.returns
returns c = λ limits task real entries sent before work.
    let end = batches_end limits task real entries work sent before in
    (end.now, end.after, end.cut, end.batches)
