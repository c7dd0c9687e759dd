-- Laws of the modes' turns. Each is the contract of a public function of `modes.rt`, and so is proved.
use Rattle.std.specs.Prelude.{◌≤◌, ◌↔◌, ℕ, All, List, [], ◌++◌, take, Bool}
use Rattle.turn_laws.specs.Lazy.{IsLazy}
use Rattle.turn_laws.specs.Modes.{Leaves, TurnOf, nothing_kept}
use Rattle.task_model.specs.Dreams as dreams
use Rattle.task_model.specs.declared.task.Task.{Task}
use Rattle.transcript_model.specs.Dreaming.{Sent}
use Rattle.transcript_model.specs.Legal.{asks_of}
use Rattle.transcript_model.specs.Rounds.{Limits, Share}
use Rattle.transcript_model.specs.Turns.{AreBatches, AreTurns, AreTurnsOf, Kept, Stage, between}
use Rattle.transcript_model.specs.declared.entry.Entry.{Entry}
use Rattle.transcript_model.specs.declared.head.Mode.{Mode}

-- The turns of a mode are the turns of the one family.
abbrev pub TurnsAreOfTheMode : Type 0
TurnsAreOfTheMode =
    (mode : Mode) (limits : Limits) (task : Task) (entries : List Entry) (stage : Stage)
    → AreTurns limits task (TurnOf mode limits task) nothing_kept [] entries stage
    ↔ AreTurnsOf mode limits task entries stage

-- A transcript stops between two turns exactly where whole turns lead through it.
abbrev pub WholeTurnsLead : Type 0
WholeTurnsLead =
    (limits : Limits) (task : Task) (entries : List Entry)
    → AreTurnsOf limits.mode limits task entries between ↔ ((k : Kept) × Leaves limits task entries k)

-- The front of a list of turns is one, whatever its mode carries.
abbrev pub FrontsAreBegun : Type 0
FrontsAreBegun =
    (limits : Limits) (task : Task) (entries : List Entry) (stage : Stage) (k : ℕ)
    → AreTurnsOf limits.mode limits task entries stage
    → (s : Stage) × AreTurnsOf limits.mode limits task (take k entries) s

-- Behind any transcript the batches of a dream's entries have an end, where each pool has a worker.
abbrev pub BatchesExist : Type 0
BatchesExist =
    (limits : Limits) (task : Task) (real : ℕ) (entries : List dreams.SupposedEntry) (sent : List Sent) (before : List Entry)
    → All (λ (p : Share). 1 ≤ p.workers) limits.pools
    → (now : List Entry) × (after : List Sent) × (cut : Bool)
    × AreBatches limits task real entries sent before now after cut

-- No mode makes more requests than the limit allows.
abbrev pub CallsAreKept : Type 0
CallsAreKept =
    (limits : Limits) (task : Task) (entries : List Entry) (stage : Stage)
    → AreTurnsOf limits.mode limits task entries stage → asks_of entries ≤ limits.calls

-- A front of a lazy transcript is lazy.
abbrev pub FrontsAreLazy : Type 0
FrontsAreLazy =
    (limits : Limits) (task : Task) (entries more : List Entry)
    → IsLazy limits task (entries ++ more) → IsLazy limits task entries
