use Rattle.table_runs.proofs.AgreeLemmas.{dialogue_agrees}
use Rattle.table_runs.proofs.laws.dialogues_agree.Goals as goal

pub returns : goal.returns
returns c = λ version task pools answers entries spoken fit legal few served talks by.
    dialogue_agrees version task pools entries fit legal few answers spoken served talks by
