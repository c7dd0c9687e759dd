-- What the definitions refuse, at the first worked task. Each is a clause of a public function of `refusals.rt`.
use Rattle.std.specs.Prelude.{ℕ, List, [], ◌∷◌, ◌++◌, codes, Bool}
use Rattle.turn_laws.specs.Lazy.{IsLazy}
use Rattle.task_model.specs.Examples.{call as grip_of}
use Rattle.task_model.specs.Streams.{IsDue}
use Rattle.transcript_model.specs.Legal.{IsLegal}
use Rattle.transcript_model.specs.Outcomes.{IsTruePlan}
use Rattle.transcript_model.specs.Rounds.{AreRounds}
use Rattle.transcript_model.specs.Transcript.{known_of, notes_of}
use Rattle.transcript_model.specs.Turns.{IsLevel}
use Rattle.transcript_model.specs.declared.entry.Call.{Call}
use Rattle.transcript_model.specs.declared.entry.Entry.{Entry}
use Rattle.transcript_model.specs.declared.entry.Entry.TheVariants as entry
use Rattle.transcript_model.specs.declared.outcome.Origin.{Origin}
use Rattle.witness_laws.specs.Fetch.{fetch, grip_cup}
use Rattle.witness_laws.specs.Level.{cup_entries, cup_limits, cup_plan}

-- the level and its request, which isn't answered yet
abbrev pub cup_asked : List Entry
cup_asked = entry.Level ∷ entry.Ask 1 0 grip_cup ∷ []

-- taking the cup by a grip of this name
abbrev pub taking_by : List ℕ → List Call
taking_by name = record { name = codes "take"; args = codes "cup" ∷ name ∷ [] } ∷ []

-- A level at which the cup, which is due, isn't asked for is no level.
abbrev pub LevelsAskForAll : Type 0
LevelsAskForAll = (cut : Bool) → ¬ (IsLevel cup_limits fetch [] (entry.Level ∷ []) cut)

-- What begins a turn behind the answer by which a plan exists isn't lazy.
abbrev pub TurnsBehindPlansArentLazy : Type 0
TurnsBehindPlansArentLazy = ¬ (IsLazy cup_limits fetch (cup_entries ++ entry.Level ∷ []))

-- A plan with a placeholder in the place of a grip is none over what is certified, whatever its cost and its origins.
abbrev pub PlaceholdersMakeNoPlan : Type 0
PlaceholdersMakeNoPlan =
    (cost : ℕ) (from : List Origin) → ¬ (IsTruePlan 1 fetch cup_entries (taking_by (codes "?0")) cost from)

-- The plan of two steps at a cost of three isn't true.
abbrev pub GreaterCostsAreFalse : Type 0
GreaterCostsAreFalse = (from : List Origin) → ¬ (IsTruePlan 1 fetch cup_entries cup_plan 3 from)

-- An answer to a request that has its answer isn't legal.
abbrev pub AnswersNeedOpenRequests : Type 0
AnswersNeedOpenRequests = ¬ (IsLegal 1 fetch (cup_entries ++ entry.End 1 ∷ []))

-- A request that is made again before it was answered isn't legal.
abbrev pub OpenRequestsArentRepeated : Type 0
OpenRequestsArentRepeated = ¬ (IsLegal 1 fetch (cup_asked ++ entry.Ask 2 0 grip_cup ∷ []))

-- What is asked of the generated object isn't due: that it is an item isn't known.
abbrev pub DomainFactsAreNeeded : Type 0
DomainFactsAreNeeded = ¬ (IsDue fetch (known_of fetch cup_entries) (notes_of fetch cup_entries) (grip_of 1))

-- Two requests to a stream with two workers are one round, and not two.
abbrev pub RoundsAreFull : Type 0
RoundsAreFull = ¬ (AreRounds (record { workers = 2; streams = 0 ∷ [] } ∷ []) (grip_of 0 ∷ grip_of 1 ∷ [])
    ((grip_of 0 ∷ []) ∷ (grip_of 1 ∷ []) ∷ []))
