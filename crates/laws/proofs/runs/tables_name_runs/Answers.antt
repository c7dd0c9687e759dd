use Rattle.turn_run.proofs.TabledLemmas.{run_tabled}
use Rattle.table_runs.proofs.TabledLemmas.{workers_matter_not}
use Rattle.laws.proofs.runs.tables_name_runs.Goals as goal

pub returns : goal.returns
returns c = λ task head other answers xs ys spoken told o p fit calls first second.
    workers_matter_not task head other answers xs ys spoken told o p first.mode second.mode calls
    (run_tabled task head xs o spoken fit first.runnable first.run first.talks)
    (run_tabled task other ys p told fit second.runnable second.run second.talks) first.by second.by first.not_states
    second.not_states
