use Rattle.round_run.specs.Told.{stretch}
use Rattle.laws.proofs.MemoryLemmas.{batch_loses_none}
use Rattle.laws.proofs.runs.batches_lose_no_answer.Goals as goal

pub returns : goal.returns
returns g c = λ old new host_old host_new out_old out_new dues done.
    batch_loses_none old new (stretch g.H.Host g.O.Sink host_old host_new out_old out_new) dues done
