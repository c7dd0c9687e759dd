-- Levels: what was run is one, their fronts, and how they are counted.
use Rattle.std.proofs.Common.{◌≡◌, ℕ, Result, Bool, true, false, List, [], ◌∷◌, ◌++◌, length, refl, sym, subst, ◌∙◌, ◌⊎◌, inl, inr, arith, ◌+◌, count_by, ap, ◌-◌}
use Rattle.std.proofs.lemmas.Bool.{lt-ltb}
use Rattle.std.proofs.lemmas.List.{length-map}
use Rattle.instance_queue.specs.Level.{due_instances}
use Rattle.instance_queue.specs.declared.due.Due.{Due}
use Rattle.lemmas.proofs.Counts.{count_head, count_joined}
use Rattle.solve_run.specs.Levels.{FallsBack, IsFrontOfFallback, IsSomeLevel, RanLevel, RunsLevel}
use Rattle.solve_run.specs.OnDesk.{OnLevel}
use Rattle.turn_laws.specs.Modes.{nothing_kept, TurnOf}
use Rattle.round_run.proofs.GoingLemmas.{turn_as}
use Rattle.round_run.proofs.RollingFrontLemmas.{front_first}
use Rattle.round_run.specs.Batches.{EndsBatch}
use Rattle.round_run.specs.Desk.{AtDesk}
use Rattle.round_run.specs.Rolling.{IsFrontPart}
use Rattle.round_run.specs.Told.{Stretch}
use Rattle.round_run.specs.declared.ending.Batch.{Batch}
use Rattle.round_run.specs.declared.fault.RunFault.{RunFault}
use Rattle.task_model.specs.declared.task.Task.{Task}
use Rattle.transcript_model.specs.Legal.{is_level, asks_of}
use Rattle.transcript_model.specs.Rounds.{limits_of}
use Rattle.transcript_model.specs.Turns.{IsLevel, is_cut, level, reset}
use Rattle.transcript_model.specs.declared.entry.Entry.{Entry}
use Rattle.transcript_model.specs.declared.entry.Entry.TheVariants as entry
use Rattle.transcript_model.specs.declared.head.Head.{Head}
use Rattle.transcript_model.specs.declared.head.Mode.{Mode}
use Rattle.transcript_model.specs.declared.head.Mode.TheVariants.{Incremental}
use Rattle.turn_run.proofs.ReportsCountLemmas.{rounds_none}
use Rattle.turn_run.proofs.ShortDreamLemmas.{IsShortFirst, turn_short}
use Rattle.turn_run.proofs.TurnsLevelLemmas.{batch_cut}
use Rattle.turn_run.specs.Asking.{IsFrontBehind, IsAskedBehind, OnAskBehind, RanBehind}
use Rattle.turn_run.specs.Turns.{HasShortDreams, IsTurn, IsTurnAt, cut_by}

-- a level is a turn of incremental mode
pub level_turn : (head : Head) (task : Task) (before now : List Entry) (cut : Bool) → head.mode ≡ Incremental
    → IsLevel (limits_of head) task before now cut
    → TurnOf head.mode (limits_of head) task nothing_kept before now nothing_kept cut
level_turn head task before now cut mode whole =
    subst (λ (m : Mode). TurnOf m (limits_of head) task nothing_kept before now nothing_kept cut) (sym mode) (whole, refl)

-- no dream stands in it
pub level_short : (head : Head) (task : Task) (before now : List Entry) (cut : Bool) → head.mode ≡ Incremental
    → IsLevel (limits_of head) task before now cut → HasShortDreams head.states now
level_short head task before now cut mode whole =
    turn_short head task nothing_kept before now nothing_kept cut (level_turn head task before now cut mode whole)
    (subst (IsShortFirst head.states) (sym whole.is) tt)

-- a batch behind the line of a level is a level
pub level_of : (head : Head) (task : Task) (before now after : List Entry) (asks later : ℕ) (dues : List Due) (b : Batch)
    → asks ≡ asks_of before → IsTurn head task before asks dues → IsAskedBehind head task before entry.Level (due_instances dues) now
    → EndsBatch task after asks later head.calls (length dues) b → IsLevel (limits_of head) task before now (cut_by b)
level_of head task before now after asks later dues b counted turn asked ends = record {
  list = due_instances dues;
  due = turn.due.due;
  rest = asked.rest;
  is = asked.is;
  batch = asked.batch;
  cut_is = batch_cut head task before after asks later (length dues) (due_instances dues) b counted (omega (arith, turn.left))
      (length-map dues (λ (d : Due). d.instance)) ends;
}

-- a level is counted once
pub level_counts : (head : Head) (task : Task) (before after : List Entry) (b : Batch)
    → RunsLevel head task before after b
    → count_by is_level after ≡ count_by is_level before + 1
level_counts head task before after b (now, pushed, whole) =
    let one = ap (count_by is_level) whole.is ∙ count_head is_level entry.Level whole.rest
    ∙ ap (λ n. 1 + n) (rounds_none task _ whole.batch.rounds whole.rest whole.batch.run) in
    ap (count_by is_level) pushed ∙ count_joined is_level before now ∙ ap (λ n. count_by is_level before + n) one

-- ---- levels

-- the line of a level and a front of its batch are a front of the level
pub front_level : (head : Head) (task : Task) (before : List Entry) (asks : ℕ) (dues : List Due) → IsTurn head task before asks dues
    → (es : List Entry) → IsFrontBehind head task before entry.Level (due_instances dues) es
    → IsFrontPart before (IsSomeLevel head task before) es
front_level head task before asks dues turn es f = record {
  part = f.part;
  rest = f.rest;
  is = f.is;
  whole = (
    is_cut (limits_of head) before (due_instances dues),
    record {
      list = due_instances dues;
      due = turn.due.due;
      rest = f.whole.rest;
      is = f.whole.is;
      batch = f.whole.batch;
      cut_is = refl;
    },
  );
}

-- asking all that is due behind the line of a level is a level
pub asked_level : (old new : AtDesk) (c : Stretch) (dues : List Due) (r : Result Batch RunFault)
    → length old.state.asked ≡ asks_of old.state.entries → IsTurnAt old dues → OnAskBehind old new c entry.Level dues r
    → OnLevel old new c dues r
asked_level old new c dues r counted turn goes =
    turn_as old new c (RanBehind old.task old.head entry.Level dues old.state new.state)
    (RanLevel old.task old.head dues old.state new.state)
    (IsFrontBehind old.head old.task old.state.entries entry.Level (due_instances dues))
    (IsFrontPart old.state.entries (IsSomeLevel old.head old.task old.state.entries)) r goes
    (λ b ran. record {
      level = (
        ran.now,
        ran.pushed,
        level_of old.head old.task old.state.entries ran.now new.state.entries (length old.state.asked) (length new.state.asked) dues b
            counted turn ran.asks ran.ends,
      );
      ends = ran.ends;
    })
    (λ es legal f. front_level old.head old.task old.state.entries (length old.state.asked) dues turn es f)

-- ---- behind `none`

module _ (head : Head) (task : Task) (before : List Entry) where
  pub falls_reset : FallsBack head task true before (entry.Reset ∷ []) false
  falls_reset [] some = absurd (cc)
  falls_reset (first ∷ more) some = reset first more

  pub falls_level : (now : List Entry) (cut : Bool) → IsLevel (limits_of head) task before now cut
      → FallsBack head task false before now cut
  falls_level now cut this [] none = level this
  falls_level now cut this (first ∷ more) none =
      absurd (let bad : true ≡ false = sym (lt-ltb 0 (length (first ∷ more)) (omega arith)) ∙ none in cc)

  -- all is forgotten, or this isn't written yet
  pub front_reset : (es : List Entry) → (es ≡ before) ⊎ (es ≡ before ++ entry.Reset ∷ [])
      → IsFrontOfFallback head task true before es
  front_reset es (inl is) =
      subst (IsFrontOfFallback head task true before) (sym is)
      (front_first before (entry.Reset ∷ []) (λ now. (cut : Bool) × FallsBack head task true before now cut) (false, falls_reset))
  front_reset es (inr is) = record { part = entry.Reset ∷ []; rest = []; is = is; whole = (false, falls_reset) }

  -- a front of a level
  pub front_fallback : (es : List Entry) → IsFrontPart before (IsSomeLevel head task before) es
      → IsFrontOfFallback head task false before es
  front_fallback es f = record {
    part = f.part;
    rest = f.rest;
    is = f.is;
    whole = (f.whole.0, falls_level (f.part ++ f.rest) f.whole.0 f.whole.1);
  }
