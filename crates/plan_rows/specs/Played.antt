-- Where a session stands between rounds, and what the events of a round leave.
use Rattle.std.specs.Prelude.{◌≡◌, false}
use Rattle.session_core.specs.Session.{IsSession, IsLearnt}
use Rattle.session_core.specs.State.{State}
use Rattle.task_model.specs.declared.task.Task.{Task}

-- no round is open, nothing failed, and all is learnt
pub record IsWorkingSession (task : Task) (s : State) : Type 0 where
  pub session : IsSession task s
  pub works : s.failed ≡ false
  pub learnt : IsLearnt s

-- the events of a round change nothing but its slots
pub record IsRoundKept (before after : State) : Type 0 where
  pub works : after.failed ≡ false
  pub entries : after.entries ≡ before.entries
  pub instances : after.instances ≡ before.instances
  pub is_open : after.is_open ≡ before.is_open
  pub kept : (task : Task) → IsSession task before → IsSession task after
