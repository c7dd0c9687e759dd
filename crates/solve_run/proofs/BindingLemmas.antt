-- Turns of binding mode, and what would go on as one.
use Rattle.std.proofs.Common.{◌≡◌, ℕ, ◌+◌, ◌<◌, ◌≤◌, arith, Bool, false, count_by, inl, inr, List, [], ◌∷◌, ◌++◌, length, refl, sym, subst, ap, ◌∙◌}
use Rattle.std.specs.Prelude.{⊤}
use Rattle.solve_run.proofs.CountLemmas.{batches_count, batches_levels}
use Rattle.solve_run.specs.Batching.{AreBatchesBehind, IsFrontBehindLine, MayRunBehind, RanBehindLine}
use Rattle.turn_laws.proofs.DreamLemmas.{dream_asks}
use Rattle.solve_run.proofs.DreamtLemmas.{idle_one}
use Rattle.solve_run.proofs.FocusingLemmas.{Dreamt}
use Rattle.solve_run.specs.Focusing.{HasCallLeft, RanFocused, carried, idle_of}
use Rattle.turn_run.specs.Advancing.{StandsBetween, IsFrontOfTurn}
use Rattle.turn_run.proofs.ShortDreamLemmas.{IsShortFirst, turn_short}
use Rattle.turn_run.specs.Turns.{HasShortDreams, cut_by}
use Rattle.round_run.specs.TurnLines.{opens_requests}
use Rattle.turn_run.specs.declared.turns.Turned.{Turned}
use Rattle.turn_run.specs.declared.turns.Turned.TheVariants as turned
use Rattle.turn_laws.proofs.ModeBatchesLemmas.{batches_ask}
use Rattle.turn_laws.specs.Modes.{TurnOf}
use Rattle.round_run.specs.declared.ending.Batch.{Batch}
use Rattle.round_run.specs.declared.ending.Batch.TheVariants.{CallsSpent, Done}
use Rattle.lemmas.proofs.Counts.{count_joined}
use Rattle.session_core.specs.State.{State}
use Rattle.task_model.specs.Dreams as dreams
use Rattle.task_model.specs.Fit.{IsFit}
use Rattle.task_model.specs.declared.stream.Instance.{Instance}
use Rattle.task_model.specs.declared.task.Task.{Task}
use Rattle.transcript_model.proofs.LegalNumberLemmas.{asks_marked, asks_more}
use Rattle.transcript_model.specs.Dreaming.{Sent, next_sent, sent_instances}
use Rattle.transcript_model.specs.Legal.{IsLegal, asks_of, is_ask, is_level, is_mark}
use Rattle.transcript_model.specs.Rounds.{limits_of}
use Rattle.transcript_model.specs.Transcript.{names_of}
use Rattle.transcript_model.specs.Turns.{AreBatches}
use Rattle.transcript_model.specs.declared.entry.Entry.{Entry}
use Rattle.transcript_model.specs.declared.entry.Entry.TheVariants as entry
use Rattle.transcript_model.specs.declared.head.Head.{Head}
use Rattle.transcript_model.specs.declared.head.Mode.{Mode}
use Rattle.transcript_model.specs.declared.head.Mode.TheVariants.{Binding}

module _ (head : Head) (task : Task) (is : head.mode ≡ Binding) (tried : List Instance) (line : Entry)
    (entries : List dreams.SupposedEntry) (old : State) (d : Dreamt (limits_of head) task old.entries tried line entries) where
  abbrev real : ℕ
  real = length (names_of task old.entries)

  -- the dream with all its batches is a turn
  dream_turn : (now : List Entry) (after : List Sent) (cut : Bool)
      → AreBatchesBehind head task (length (names_of task old.entries)) entries old.entries line now after cut
      → TurnOf head.mode (limits_of head) task (carried tried) old.entries now (carried (tried ++ sent_instances after)) cut
  dream_turn now after cut run =
      subst (λ (m : Mode). TurnOf m (limits_of head) task (carried tried) old.entries now (carried (tried ++ sent_instances after)) cut)
      (sym is) (
        inl (record {
          uses = d.uses;
          steps = d.steps;
          entries = entries;
          dream = d.dream;
          rest = run.rest;
          is = run.is ∙ ap (λ e. e ∷ run.rest) d.is;
          sent = after;
          batches = subst (λ (e : Entry). AreBatches (limits_of head) task real entries [] (old.entries ++ e ∷ [])
              run.rest after cut) d.is run.batches;
          joined = refl;
        }),
        refl,
      )

  -- the first of them are the first of a turn
  pub dreamt_front : (es : List Entry) → IsFrontBehindLine head task (length (names_of task old.entries)) entries old.entries line es
      → IsFrontOfTurn task head (carried tried) old.entries es
  dreamt_front es f = inr (record {
    part = f.part;
    rest = f.rest;
    is = f.is;
    whole = (
      carried (tried ++ sent_instances f.whole.0),
      f.whole.1,
      dream_turn (f.part ++ f.rest) f.whole.0 f.whole.1 f.whole.2,
    );
  })

  pub may_run : HasCallLeft head old → MayRunBehind head line old
  may_run room = record {
    mark = ap is_mark d.is;
    opens = ap (opens_requests head.mode) d.is ∙ ap (λ m. opens_requests m (entry.Dream d.uses d.steps)) is;
    left = room.left;
  }

  -- ---- what was asked

  module _ (fit : IsFit task) (legal : IsLegal head.version task old.entries) (room : HasCallLeft head old)
      (counted : length old.asked ≡ asks_of old.entries) (new : State) (counted_now : length new.asked ≡ asks_of new.entries)
      (joined : List Instance) (b : Batch)
      (ran : RanBehindLine head task (length (names_of task old.entries)) entries line old new tried joined b) where
    abbrev marked : List Entry
    marked = old.entries ++ line ∷ []

    marked_asks : asks_of marked ≡ asks_of old.entries
    marked_asks = asks_marked old.entries line (ap is_ask d.is)

    all_asks : asks_of new.entries ≡ asks_of marked + length ran.after
    all_asks =
        let count = batches_count (limits_of head) task real entries [] marked ran.batches.rest ran.after (cut_by b) ran.batches.batches in
        omega (
          arith,
          count,
          ap asks_of ran.pushed,
          asks_more old.entries ran.now,
          ap asks_of ran.batches.is,
          asks_more (line ∷ []) ran.batches.rest,
          asks_more old.entries (line ∷ []),
          asks_more marked ran.batches.rest,
        )

    some : 0 < length ran.after
    some =
        batches_ask (limits_of head) task real entries [] marked ran.batches.rest ran.after (cut_by b) ran.batches.batches
        (omega (arith, marked_asks, counted, room.left))
        (subst (λ e. 0 < length (next_sent task (old.entries ++ e ∷ []) real []
        (asks_of marked + 1) [] entries)) (sym d.is)
        (dream_asks (limits_of head) task old.entries tried fit legal d.uses d.steps entries (asks_of marked + 1) d.dream))

    more : length old.asked < length new.asked
    more = omega (arith, counted, counted_now, marked_asks, all_asks, some)

    levels : count_by is_level new.entries ≤ length new.asked
    levels = omega (
      arith,
      room.levels,
      more,
      ap (count_by is_level) ran.pushed,
      count_joined is_level old.entries ran.now,
      ap (count_by is_level) ran.batches.is,
      count_joined is_level (line ∷ []) ran.batches.rest,
      ap (λ e. count_by is_level (e ∷ [])) d.is,
      batches_levels (limits_of head) task real entries [] marked ran.batches.rest ran.after (cut_by b) ran.batches.batches,
    )

    fits : StandsBetween (λ asked. ⊤) (idle_of joined) new
    fits = record { holds = tt; room = omega (arith, idle_one joined); levels = levels }

    turn : TurnOf head.mode (limits_of head) task (carried tried) old.entries ran.now
        (carried (tried ++ sent_instances ran.after)) (cut_by b)
    turn = dream_turn ran.now ran.after (cut_by b) ran.batches

    short : HasShortDreams head.states ran.now
    short =
        turn_short head task (carried tried) old.entries ran.now (carried (tried ++ sent_instances ran.after)) (cut_by b) turn
        (subst (IsShortFirst head.states) (sym (ran.batches.is ∙ ap (λ e. e ∷ ran.batches.rest) d.is)) d.few)

    pub ran_dreamt : (t : Turned) → (b ≡ Done → t ≡ turned.Done) → (b ≡ CallsSpent → t ≡ turned.Spent)
        → RanFocused task head tried joined old new t
    ran_dreamt t done spent = by b refl
      where
        whole : b ≡ Done → RanFocused task head tried joined old new turned.Done
        whole e = record {
          turned = (
            ran.now,
            ran.pushed,
            subst (λ next. TurnOf head.mode (limits_of head) task (carried tried) old.entries ran.now (carried next)
                false) (sym (ran.joins e))
                (subst (λ c. TurnOf head.mode (limits_of head) task (carried tried) old.entries ran.now
                (carried (tried ++ sent_instances ran.after)) c) (ap cut_by e) turn),
            short,
          );
          falls = λ is_done. inl more;
          fits = fits;
        }

        off : b ≡ CallsSpent → RanFocused task head tried joined old new turned.Spent
        off e = record {
          turned = (
            ran.now,
            carried (tried ++ sent_instances ran.after),
            ran.pushed,
            subst (λ c. TurnOf head.mode (limits_of head) task (carried tried) old.entries ran.now
                (carried (tried ++ sent_instances ran.after)) c) (ap cut_by e) turn,
            ran.sure e,
            short,
          );
          falls = λ is_done. inl more;
          fits = fits;
        }

        by : (c : Batch) → b ≡ c → RanFocused task head tried joined old new t
        by Done = λ e. subst (RanFocused task head tried joined old new) (sym (done e)) (whole e)
        by CallsSpent = λ e. subst (RanFocused task head tried joined old new) (sym (spent e)) (off e)
