-- What a batch leaves behind where memory is wanting. The law is the contract of a public function of `runs.rt`, and so
-- is proved.
use Rattle.std.specs.Prelude.{◌≡◌, ◌⊎◌, ℕ, List, [], ◌∷◌, ◌++◌, Err, Option, Some, IfSome}
use Rattle.std.specs.Io.KnownBytes.{Appends}
use Rattle.std.specs.List.{flat_map}
use Rattle.instance_queue.specs.declared.due.Due.{Due}
use Rattle.io_world.specs.Talks.{Event}
use Rattle.io_world.specs.declared.host.Host as hosts
use Rattle.io_world.specs.declared.host.HostFault.TheVariants as host
use Rattle.io_world.specs.declared.sink.Sink as sinks
use Rattle.report_text.specs.Texts.{text_of_entry}
use Rattle.round_run.specs.Breaking.{refusal}
use Rattle.round_run.specs.Desk.{AtDesk, OnBatch}
use Rattle.round_run.specs.Resting.{IsFrontOfBatch, RanBatch}
use Rattle.round_run.specs.Told.{stretch}
use Rattle.round_run.specs.declared.fault.RunFault.TheVariants.{Memory}
use Rattle.transcript_model.specs.Legal.{HasNoneOpen}
use Rattle.transcript_model.specs.declared.entry.Entry.{Entry}

-- the last of these calls on children was refused for want of memory
pub record EndsRefused (events : List Event) : Type 0 where
  pub past : List Event
  pub last : Event
  pub is : events ≡ past ++ last ∷ []
  pub refused : refusal last ≡ Some host.Memory

-- These entries and others were printed. No request among them waits for its answer; or, by the log where one is told,
-- the last call on a child was refused for want of memory.
pub record LosesNoAnswer (before : List Entry) (old new : Option (List ℕ)) (log : Option (List Event)) : Type 0 where
  pub more : List Entry
  pub printed : Appends old new (flat_map text_of_entry more)
  pub kept : IfSome log (λ events. HasNoneOpen (before ++ more) ⊎ EndsRefused events)

-- A batch that stops where memory is wanting loses no answer to a request that it has printed, over any host and sink:
-- what the planner needs to print and to keep an answer it takes before it asks.
abbrev pub BatchesLoseNoAnswer : {H O : Type 0} → hosts.Ghosts H → sinks.Ghosts O → Type 0
BatchesLoseNoAnswer {H} {O} ghosts sink =
    (old new : AtDesk) (host_old host_new : H) (out_old out_new : O) (dues : List Due)
    → OnBatch old new (stretch ghosts sink host_old host_new out_old out_new)
    (RanBatch old.task old.head dues old.state new.state)
    (IsFrontOfBatch old.task old.head old.state.entries dues) (Err Memory)
    → LosesNoAnswer old.state.entries (sink.taken out_old) (sink.taken out_new) (ghosts.log host_new)
