use Rattle.std.proofs.Common.{◌+◌, ◌-◌, ◌*◌, ◌≤◌, Ok, Result, length}
use Rattle.std.specs.Prelude.{⊤}
use Rattle.turn_run.proofs.TurnsLemmas.{Standing}
use Rattle.turn_run.proofs.turn_loop.run_turns.Given as goal
use Rattle.turn_run.specs.Advancing.{StandsBetween}
use Rattle.round_run.specs.Desk.{OnTurn}
use Rattle.round_run.specs.Told.{stretch}
use Rattle.turn_run.specs.Turns.{HasShortDreams, IsFrontOfRun}
use Rattle.round_run.specs.declared.fault.RunFault.{RunFault}

-- the run stands between two turns, and its lines were written
abbrev pub invariant-turns : goal.invariant-turns
invariant-turns g l = record {
  goes : OnTurn l.initial.desk l.desk
      (stretch g.H.Host g.O.Sink
      l.initial.host l.host l.initial.out l.out)
      (λ (_ : Unit {0}). ⊤) (IsFrontOfRun l.initial.desk.head l.initial.desk.task)
      (let r : Result (Unit {0}) RunFault = Ok tt in r);
  standing : Standing l.initial.desk.head l.initial.desk.task (g.M.Turns.kept l.mode) l.desk.state.entries;
  short : HasShortDreams l.initial.desk.head.states l.desk.state.entries;
  fits : StandsBetween (g.M.Turns.holds l.mode) (g.M.Turns.idle l.mode) l.desk.state;
  within : length l.desk.state.asked ≤ l.initial.desk.head.calls;
}

-- a turn spends calls, or fewer turns may still ask nothing
abbrev pub decreases-turns : goal.decreases-turns
decreases-turns g l = (l.initial.desk.head.calls - length l.desk.state.asked) * 200002 + g.M.Turns.idle l.mode
