use Rattle.task_model.proofs.TruthSlotLemmas.{same_truth}
use Rattle.task_model.proofs.laws.truth_ignores_other_slots.Goals as goal

pub returns : goal.returns
returns c =
    λ atom objects condition slots others long same. same_truth atom objects condition slots others (record { long = long; at = same })
