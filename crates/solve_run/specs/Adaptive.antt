-- What a turn of adaptive mode has done.
use Rattle.std.specs.Prelude.{List}
use Rattle.solve_run.specs.Skeletons.{AreFewKept, idle_with, kept_of}
use Rattle.turn_run.specs.Advancing.{RanTurn}
use Rattle.turn_run.specs.declared.turns.Turned.{Turned}
use Rattle.session_core.specs.State.{State}
use Rattle.skeletons.specs.Skeletons.{skeletons_in}
use Rattle.skeletons.specs.declared.skeletons.Skeleton as stored
use Rattle.task_model.specs.declared.stream.Instance.{Instance}
use Rattle.task_model.specs.declared.task.Task.{Task}
use Rattle.transcript_model.specs.declared.head.Head.{Head}

-- what a turn has done, where these skeletons were kept and these instances tried before, and those afterwards
abbrev pub RanAdaptive : Task → Head → List stored.Skeleton → List Instance → List stored.Skeleton → List Instance
    → State → State → Turned → Type 0
RanAdaptive task head skeletons tried later next =
    RanTurn task head (kept_of skeletons tried) (kept_of later next) (idle_with (skeletons_in skeletons) tried)
    (idle_with (skeletons_in later) next) (λ asked. AreFewKept (skeletons_in later) asked)
