-- What is done with one child, and how all workers are started.
use Rattle.std.specs.Prelude.{◌≡◌, ◌≤◌, ℕ, [], List, take, true, false, Result, Ok, Err, IfErr, IsErrOf, OnOk, OnErr, MatchResult}
use Rattle.io_world.specs.Faults.{Extends, HasCause}
use Rattle.io_world.specs.Talks.{Becomes, Empties, Hears, Logs, LogsGiven, LogsGivenPart, LogsTaken, LogsTakenPart, Same, Writes, started}
use Rattle.io_world.specs.declared.host.HostFault.{HostFault}
use Rattle.round_run.specs.Breaking.{LogHears}
use Rattle.round_run.specs.Calls.{LogReads, LogStartsPart, LogStops, starts_of}
use Rattle.round_run.specs.Held.{Held, is_child_running}
use Rattle.io_world.specs.Leads.{IsLed}
use Rattle.round_run.specs.Led.{stops_for_memory}
use Rattle.round_run.specs.Resting.{KeepsSilent}
use Rattle.round_run.specs.Rolling.{IsHostFault}
use Rattle.round_run.specs.Starts.{AllWork}
use Rattle.round_run.specs.Stops.{MayHear}
use Rattle.round_run.specs.Talking.{Fills, IsAnswerRefused, Misheard, TakesAnswer}
use Rattle.round_run.specs.Told.{Course}
use Rattle.round_run.specs.declared.fault.RunFault.{RunFault}
use Rattle.round_run.specs.declared.fault.RunFault.TheVariants.{Generator}
use Rattle.session_core.specs.Heard.{is_bad_at}
use Rattle.session_core.specs.Session.{IsSession}
use Rattle.session_core.specs.State.{State, after_line}
use Rattle.task_model.specs.declared.task.Task.{Task}
use Rattle.transcript_model.specs.declared.head.Pool.{Pool}

-- ---- starts

-- The child was started with these words, and nothing was said with it yet; or the start was refused.
pub record StartsOne (child : ℕ) (words : List (List ℕ)) (c : Course) (result : Result (Unit {0}) RunFault)
    : Type 0 where
  pub running : MatchResult result (λ _. Becomes child true c.was.running c.now.running)
      (λ _. Same c.was.running c.now.running)
  pub spoken : MatchResult result (λ _. Empties child c.was.spoken c.now.spoken) (λ _. Same c.was.spoken c.now.spoken)
  pub log : OnOk result (Logs c.was.log c.now.log (started child words (Ok tt)))
  pub refused : IfErr result (λ fault. (cause : HostFault) × IsHostFault cause fault
      × Logs c.was.log c.now.log (started child words (Err cause)))
  pub only : IfErr result MayHear
  pub cause : HasCause Generator c.last c.was.faults c.now.faults result
  pub led : IsLed c.host.leads (stops_for_memory result)

-- The same, where it is kept which children run.
pub record StartsHeld (child : ℕ) (words : List (List ℕ)) (old new : Held) (c : Course)
    (result : Result (Unit {0}) RunFault) : Type 0 where
  pub state : Same c.now.running (is_child_running new)
  pub running : OnOk result (Becomes child true (is_child_running old) (is_child_running new))
  pub quiet : KeepsSilent old new c.was.spoken c.now.spoken
  pub log : OnOk result (Logs c.was.log c.now.log (started child words (Ok tt)))
  pub refused : IfErr result (λ fault. (cause : HostFault) × IsHostFault cause fault
      × Logs c.was.log c.now.log (started child words (Err cause)))
  pub only : IfErr result MayHear
  pub cause : HasCause Generator c.last c.was.faults c.now.faults result
  pub led : IsLed c.host.leads (stops_for_memory result)

-- All workers of the pools were started, in the order of their numbers; or the first of them, and the next start was
-- refused.
pub record StartsAll (pools : List Pool) (old new : Held) (c : Course) (result : Result (Unit {0}) RunFault)
    : Type 0 where
  pub state : Same c.now.running (is_child_running new)
  pub running : OnOk result (AllWork pools (is_child_running new))
  pub quiet : KeepsSilent old new c.was.spoken c.now.spoken
  pub log : OnOk result (Extends c.was.log c.now.log (starts_of pools))
  pub refused : IfErr result (λ fault. LogStartsPart (starts_of pools) fault c.was.log c.now.log)
  pub only : IfErr result MayHear
  pub cause : HasCause Generator c.last c.was.faults c.now.faults result
  pub led : IsLed c.host.leads (stops_for_memory result)

-- ---- stops

-- Afterwards no child runs, and nothing but stops came to the log. Where none ran the host is as it was.
pub record StopsAll (c : Course) : Type 0 where
  pub idle : (child : ℕ) → c.now.running child ≡ false
  pub none : ((child : ℕ) → c.was.running child ≡ false) → c.host.same
  pub stops : LogStops c.was.log c.now.log
  pub spoken : Same c.was.spoken c.now.spoken
  pub later : c.was.faults ≤ c.now.faults
  pub leads : c.host.leads false

-- ---- requests and answers

-- The bytes were written to the child; or the first of them, and the next write was refused.
pub record SendsBytes (child : ℕ) (bytes : List ℕ) (c : Course) (result : Result (Unit {0}) RunFault) : Type 0 where
  pub running : Same c.was.running c.now.running
  pub all : OnOk result (Writes child bytes c.was.spoken c.now.spoken)
  pub part : OnErr result ((n : ℕ) × Writes child (take n bytes) c.was.spoken c.now.spoken)
  pub log : OnOk result (LogsTaken child bytes c.was.log c.now.log)
  pub refused : IfErr result (λ fault. (cause : HostFault) × IsHostFault cause fault
      × LogsTakenPart child bytes cause c.was.log c.now.log)
  pub only : IfErr result MayHear
  pub cause : HasCause Generator c.last c.was.faults c.now.faults result
  pub led : IsLed c.host.leads (stops_for_memory result)

-- Bytes of the child were put into its buffer, until that holds a line or is full; or a read was refused.
pub record FillsBuffer (child : ℕ) (old new : List ℕ) (c : Course) (result : Result (Unit {0}) RunFault) : Type 0 where
  pub running : Same c.was.running c.now.running
  pub heard : OnOk result (Fills child old new c.was.spoken c.now.spoken)
  pub lost : OnErr result ((more : List ℕ) × Hears child more c.was.spoken c.now.spoken)
  pub log : OnOk result ((bytes : List ℕ) × LogsGiven child [] bytes c.was.log c.now.log)
  pub refused : IfErr result (λ fault. (cause : HostFault) × IsHostFault cause fault
      × LogsGivenPart child [] cause c.was.log c.now.log)
  pub only : IfErr result MayHear
  pub cause : HasCause Generator c.last c.was.faults c.now.faults result
  pub led : IsLed c.host.leads (stops_for_memory result)

-- The session took the line as the child's answer, or the line is none.
pub record TakesLine (child : ℕ) (line : List ℕ) (old new : State) (result : Result (Unit {0}) RunFault) : Type 0 where
  pub taken : OnOk result (new ≡ after_line old child line false)
  pub good : OnOk result (is_bad_at old.slots child line ≡ false)
  pub refused : IfErr result (IsAnswerRefused old.slots child line)
  pub never : ¬ (IsErrOf result Generator)
  pub kept : (task : Task) → IsSession task old → IsSession task new

-- The session took the child's next line, of which these bytes were held and these are left; or none, for a fault.
pub record HearsLine (child : ℕ) (old new : State) (held left : List ℕ) (c : Course)
    (result : Result (Unit {0}) RunFault) : Type 0 where
  pub taken : OnOk result (TakesAnswer old child new held left c.was.spoken c.now.spoken)
  pub misheard : IfErr result (Misheard old.slots child held c.was.spoken c.now.spoken)
  pub log : OnOk result (LogReads child held c.was.log c.now.log)
  pub refused : IfErr result (λ fault. LogHears child held fault c.was.log c.now.log)
  pub kept : (task : Task) → IsSession task old → IsSession task new
  pub running : Same c.was.running c.now.running
  pub cause : HasCause Generator c.last c.was.faults c.now.faults result
  pub led : IsLed c.host.leads (stops_for_memory result)
