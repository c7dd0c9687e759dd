-- What events spell.
use Rattle.std.proofs.Common.{◌≡◌, ℕ, List, [], ◌∷◌, ◌++◌, refl, ap, ◌∙◌, subst, Some}
use Rattle.io_world.specs.Talks.{Talk, Event, silence, said_after, spelled}
use Rattle.io_world.specs.Logs.{Calls, Notes}

-- one event more
pub spelled-more : (child : ℕ) (talk : Talk) (events : List Event) (event : Event)
    → spelled child talk (events ++ event ∷ []) ≡ said_after child (spelled child talk events) event
spelled-more child talk [] event = refl
spelled-more child talk (first ∷ events) event =
    spelled-more child (said_after child talk first) events event

-- a call that was added counts in what was said
pub noted : (inside old new : Calls) (event : Event) → inside ≡ old
    → new.events ≡ inside.events ++ event ∷ [] → new.whole ≡ inside.whole
    → Notes old new event
noted inside old new event same events whole =
    let P : Calls → Type 0 = λ calls. Notes calls new event in
    subst P same (record {
      events = events;
      whole = whole;
      said =
          λ k. ap Some (ap (spelled k silence) events ∙ spelled-more k silence inside.events event);
    })
