use Rattle.restart_runs.proofs.AgainLemmas.{again_agrees}
use Rattle.restart_runs.proofs.laws.again_dialogues_agree.Goals as goal

pub returns : goal.returns
returns c = λ task head answers entries past events fit legal few follows speak.
    again_agrees task head answers entries past events fit legal few follows speak
