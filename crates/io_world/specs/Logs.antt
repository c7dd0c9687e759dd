-- A log of calls that may have lost some.
use Rattle.std.specs.Prelude.{◌≡◌, ℕ, Bool, true, false, refl, List, [], ◌∷◌, ◌++◌, Option, Some, None, if◌then◌else◌}
use Rattle.io_world.specs.Talks.{Event, Talk, said_after, spelled, silence, SpellsTalk}

-- the calls that were done, whether they are all calls, and for how many stops room is kept
pub record Calls : Type 0 where
  pub events : List Event
  pub whole : Bool
  pub kept : ℕ

-- no call was done yet
abbrev pub no_calls : Calls
no_calls = record { events = []; whole = true; kept = 0 }

-- all calls, as long as none was lost
abbrev pub told_of : Calls → Option (List Event)
told_of calls = if calls.whole then Some calls.events else None

-- what was said with a child
abbrev pub said_of : Calls → ℕ → Option Talk
said_of calls child = Some (spelled child silence calls.events)

-- the event was added: it counts in what was said with each child
pub record Notes (old new : Calls) (event : Event) : Type 0 where
  pub events : new.events ≡ old.events ++ event ∷ []
  pub whole : new.whole ≡ old.whole
  pub said : (k : ℕ) → said_of new k ≡ Some (said_after k (spelled k silence old.events) event)

-- a call got lost: nothing was said by it
abbrev pub Loses : Calls → Calls → Type 0
Loses old new = new ≡ record old { whole = false }

-- all calls that were kept spell what was said
pub calls_spell : (calls : Calls) (child : ℕ) → SpellsTalk (told_of calls) child (said_of calls child)
calls_spell calls child =
    elim (calls.whole) as (λ whole. SpellsTalk (if whole then Some calls.events else None) child (said_of calls child))
    [ true ↦ refl | false ↦ tt ]
