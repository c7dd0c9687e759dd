-- Dreams have few steps: those of a turn where its first entry has, since no dream stands behind it.
use Rattle.std.proofs.Common.{◌≡◌, ℕ, ◌+◌, Bool, true, false, List, [], ◌∷◌, ◌++◌, inl, inr, sym, subst}
use Rattle.std.proofs.lemmas.List.Elements.{All-append, All-cons, All-nil, All-weaker}
use Rattle.turn_laws.proofs.LazyLemmas.{rounds_quiet}
use Rattle.turn_laws.specs.Lazy.{begins}
use Rattle.turn_laws.specs.Modes.{TurnOf}
use Rattle.task_model.specs.Dreams as dreams
use Rattle.task_model.specs.declared.stream.Instance.{Instance}
use Rattle.task_model.specs.declared.task.Task.{Task}
use Rattle.transcript_model.specs.Dreaming.{Sent}
use Rattle.transcript_model.specs.Rounds.{IsBatch, Limits, limits_of}
use Rattle.transcript_model.specs.Turns.{AreBatches, IsFallback, IsLevel, IsPickTurn, Kept, finished, further, last, level, reset, retiring}
use Rattle.transcript_model.specs.declared.entry.Entry.{Entry}
use Rattle.transcript_model.specs.declared.entry.Entry.TheVariants as entry
use Rattle.transcript_model.specs.declared.head.Head.{Head}
use Rattle.transcript_model.specs.declared.head.Mode.{Mode}
use Rattle.transcript_model.specs.declared.head.Mode.TheVariants.{Incremental, Focused, Binding, Adaptive}
use Rattle.turn_run.specs.Turns.{HasShortDreams, IsShortDream}

-- ---- entries

pub no_dreams : (most : ℕ) → HasShortDreams most []
no_dreams most = All-nil (IsShortDream most)

-- others came behind them
pub short_after : (most : ℕ) (before after now : List Entry) → after ≡ before ++ now → HasShortDreams most before
    → HasShortDreams most now → HasShortDreams most after
short_after most before after now pushed first second =
    subst (HasShortDreams most) (sym pushed) (All-append (IsShortDream most) before now first second)

-- an entry that isn't a dream's line
quiet_short : (most : ℕ) (e : Entry) → begins Focused e ≡ false → IsShortDream most e
quiet_short most entry.Level quiet = tt
quiet_short most (entry.Ask number turn call) quiet = tt
quiet_short most (entry.Got number tuples values) quiet = tt
quiet_short most (entry.Value number value) quiet = tt
quiet_short most (entry.End number) quiet = tt
quiet_short most (entry.Dream uses steps) quiet = absurd (let bad : true ≡ false = quiet in cc)
quiet_short most entry.Nothing quiet = tt
quiet_short most entry.Reset quiet = tt
quiet_short most (entry.Pick number) quiet = tt
quiet_short most (entry.Retire number) quiet = tt

-- if the first of them is a dream, it has few steps
abbrev pub IsShortFirst : ℕ → List Entry → Type 0
IsShortFirst most [] = Unit {0}
IsShortFirst most (e ∷ es) = IsShortDream most e

-- ---- parts of turns

module _ (most : ℕ) (limits : Limits) (task : Task) where
  opens_short : (now rest : List Entry) (e : Entry) → now ≡ e ∷ rest → IsShortFirst most now → HasShortDreams most rest
      → HasShortDreams most now
  opens_short now rest e is first later =
      subst (HasShortDreams most) (sym is) (All-cons (IsShortDream most) e rest (subst (IsShortFirst most) is first) later)

  batch_short : (before now : List Entry) (list : List Instance) → IsBatch limits task before list now → HasShortDreams most now
  batch_short before now list batch =
      All-weaker (λ e. begins Focused e ≡ false) (IsShortDream most) (quiet_short most) now
      (rounds_quiet Focused task before batch.rounds now batch.run)

  level_short : (before now : List Entry) (cut : Bool) → IsLevel limits task before now cut → HasShortDreams most now
  level_short before now cut this =
      subst (HasShortDreams most) (sym this.is)
      (All-cons (IsShortDream most) entry.Level this.rest tt
      (batch_short (before ++ entry.Level ∷ []) this.rest this.list this.batch))

  fallback_short : (before : List Entry) (tried : List Instance) (now : List Entry) (cut : Bool)
      → IsFallback limits task before tried now cut → HasShortDreams most now
  fallback_short before tried now cut (reset first more) = All-cons (IsShortDream most) entry.Reset [] tt (no_dreams most)
  fallback_short before tried now cut (level this) = level_short before now cut this

  batches_short : (real : ℕ) (entries : List dreams.SupposedEntry) (sent : List Sent)
      (before now : List Entry) (after : List Sent) (cut : Bool)
      → AreBatches limits task real entries sent before now after cut → HasShortDreams most now
  batches_short real entries sent before now after cut (finished none) = no_dreams most
  batches_short real entries sent before now after cut (last next is more batch) = batch_short before now _ batch
  batches_short real entries sent before now after cut (further {now = first} {rest = rest} next is some all batch more) =
      All-append (IsShortDream most) first rest (batch_short before first _ batch)
      (batches_short real entries (sent ++ next) (before ++ first) rest after cut more)

  retiring_short : (number : ℕ) (sent : List Sent) → HasShortDreams most (retiring number sent)
  retiring_short number [] = All-cons (IsShortDream most) (entry.Retire number) [] tt (no_dreams most)
  retiring_short number (s ∷ sent) = no_dreams most

  pick_short : (kept : Kept) (before now : List Entry) (next : Kept) (cut : Bool)
      → IsPickTurn limits task kept before now next cut → HasShortDreams most now
  pick_short kept before now next cut this =
      let number = this.place + 1 in
      subst (HasShortDreams most) (sym this.is)
      (All-cons (IsShortDream most) (entry.Pick number) (this.batches ++ retiring number this.sent) tt
      (All-append (IsShortDream most) this.batches (retiring number this.sent)
      (batches_short this.skeleton.real this.skeleton.entries [] (before ++ entry.Pick number ∷ []) this.batches this.sent cut
      this.run)
      (retiring_short number this.sent)))

  turn_of_any : (mode : Mode) (kept : Kept) (before now : List Entry) (next : Kept) (cut : Bool)
      → TurnOf mode limits task kept before now next cut → IsShortFirst most now → HasShortDreams most now
  turn_of_any Incremental kept before now next cut (this, same) first = level_short before now cut this
  turn_of_any Focused kept before now next cut (inl this, same) first =
      opens_short now this.rest (entry.Dream this.uses this.steps) this.is first
      (batch_short (before ++ entry.Dream this.uses this.steps ∷ []) this.rest _ this.batches.batch)
  turn_of_any Focused kept before now next cut (inr this, same) first =
      opens_short now this.rest entry.Nothing this.is first
      (fallback_short (before ++ entry.Nothing ∷ []) kept.tried this.rest cut this.fallback)
  turn_of_any Binding kept before now next cut (inl this, same) first =
      opens_short now this.rest (entry.Dream this.uses this.steps) this.is first
      (batches_short _ this.entries [] (before ++ entry.Dream this.uses this.steps ∷ []) this.rest this.sent cut this.batches)
  turn_of_any Binding kept before now next cut (inr this, same) first =
      opens_short now this.rest entry.Nothing this.is first
      (fallback_short (before ++ entry.Nothing ∷ []) kept.tried this.rest cut this.fallback)
  turn_of_any Adaptive kept before now next cut (inl this) first =
      opens_short now this.rest (entry.Dream this.uses this.steps) this.is first
      (pick_short _ _ this.rest next cut this.pick)
  turn_of_any Adaptive kept before now next cut (inr (inl this)) first =
      opens_short now this.rest entry.Nothing this.is first (pick_short kept _ this.rest next cut this.pick)
  turn_of_any Adaptive kept before now next cut (inr (inr this)) first =
      opens_short now this.turn.rest entry.Nothing this.turn.is first
      (fallback_short (before ++ entry.Nothing ∷ []) kept.tried this.turn.rest cut this.turn.fallback)

-- a turn of the head's mode
pub turn_short : (head : Head) (task : Task) (kept : Kept) (before now : List Entry) (next : Kept) (cut : Bool)
    → TurnOf head.mode (limits_of head) task kept before now next cut → IsShortFirst head.states now → HasShortDreams head.states now
turn_short head task kept before now next cut turn first =
    turn_of_any head.states (limits_of head) task head.mode kept before now next cut turn first
