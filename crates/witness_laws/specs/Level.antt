-- A run of the first worked task: one level, in which the cup is asked for, and then a plan of two steps.
use Rattle.std.specs.Prelude.{ℕ, List, [], ◌∷◌, codes}
use Rattle.command_line.specs.declared.number.TheConstants.{DEFAULT_CALLS, DEFAULT_DEPTH, DEFAULT_STATES}
use Rattle.task_model.specs.Plans.{IsSolvable}
use Rattle.transcript_model.specs.Legal.{HasNoneOpen, IsLegal}
use Rattle.transcript_model.specs.Outcomes.{IsTruePlan}
use Rattle.transcript_model.specs.Rounds.{Limits}
use Rattle.transcript_model.specs.Transcript.{known_of}
use Rattle.transcript_model.specs.Turns.{AreTurnsOf, between}
use Rattle.transcript_model.specs.declared.entry.Call.{Call}
use Rattle.transcript_model.specs.declared.entry.Entry.{Entry}
use Rattle.transcript_model.specs.declared.entry.Entry.TheVariants as entry
use Rattle.transcript_model.specs.declared.head.Mode.TheVariants.{Incremental}
use Rattle.transcript_model.specs.declared.outcome.Origin.{Origin}
use Rattle.witness_laws.specs.Fetch.{fetch, grip_cup}

-- the level, its request, and the answer
abbrev pub cup_entries : List Entry
cup_entries = entry.Level ∷ entry.Ask 1 0 grip_cup ∷ entry.Got 1 1 (codes "left" ∷ []) ∷ []

-- the limits that stand where words name none, and one worker for the stream
abbrev pub cup_limits : Limits
cup_limits = record {
  version = 1;
  mode = Incremental;
  calls = DEFAULT_CALLS;
  states = DEFAULT_STATES;
  depth = DEFAULT_DEPTH;
  pools = record { workers = 1; streams = 0 ∷ [] } ∷ [];
}

abbrev pub cup_step : List ℕ → Call
cup_step name = record { name = name; args = codes "cup" ∷ codes "#left" ∷ [] }

-- the cup is taken and dropped, gripped from the left as request 1 was answered
abbrev pub cup_plan : List Call
cup_plan = cup_step (codes "take") ∷ cup_step (codes "drop") ∷ []

abbrev pub cup_origins : List Origin
cup_origins = record { object = codes "#left"; number = 1; tuple = 1 } ∷ []

-- The transcript is legal and a list of whole turns, no request is open, its only turn began where no plan existed, and
-- behind it the plan is true.
pub record IsFirstRun : Type 0 where
  pub legal : IsLegal 1 fetch cup_entries
  pub turns : AreTurnsOf Incremental cup_limits fetch cup_entries between
  pub closed : HasNoneOpen cup_entries
  pub needed : ¬ (IsSolvable fetch (known_of fetch []))
  pub plan : IsTruePlan 1 fetch cup_entries cup_plan 2 cup_origins
