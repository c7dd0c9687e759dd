-- A line of a turn is taken, or is wrong.
use Rattle.std.proofs.Common.{◌≡◌, ℕ, ◌+◌, ◌-◌, ◌<◌, inl, inr, true, List, [], ◌∷◌, ◌++◌, take, length, refl, sym, ap, subst, ◌∙◌, Some, slice_get, arith}
use Rattle.std.proofs.lemmas.List.{length-append, length-take}
use Rattle.dream_asks.proofs.EntriesLemmas.{dream_distinct}
use Rattle.dream_asks.proofs.FirstLemmas.{first_sent}
use Rattle.dream_asks.specs.First.{first_instances}
use Rattle.dream_check.specs.Judged.{IsUndecidedNone}
use Rattle.dream_check.specs.Lines.{IsFirstWrongLine}
use Rattle.instance_queue.specs.Level.{due_instances}
use Rattle.instance_queue.specs.declared.due.Due.{Due}
use Rattle.course_check.proofs.KeepsLemmas.{run_followed}
use Rattle.course_check.proofs.MadeLemmas.{between_awaits, dream_made, fallback_made, keep_made, level_made, none_made, reset_made, run_made, undreamt_awaits}
use Rattle.course_check.proofs.StepsLemmas.{phases_differ}
use Rattle.course_check.proofs.WholeLemmas.{kept_left, left_kept}
use Rattle.course_check.specs.Agendas.{BeginsBatch, ModeAgenda, MovesOn, mode_place_in, with_run}
use Rattle.course_check.specs.Places.{AwaitsPhase, MayDream, Phase, ModePlace, begins_level, dreamt, falls_back, forgetting, is_repeated, joining, keeping, resets, resting, sent_first, tells_dream, tells_none, undreamt}
use Rattle.turn_laws.specs.Modes.{Leaves}
use Rattle.task_model.specs.Dreams as dreams
use Rattle.task_model.specs.Known.{Known}
use Rattle.task_model.specs.Streams.{AreDue}
use Rattle.task_model.specs.declared.task.Task.{Task}
use Rattle.learning.specs.declared.knowledge.Knowledge.{Knowledge}
use Rattle.transcript_model.specs.Dreaming.{HasNoDreamAfter, IsDreamAfter, sent_instances}
use Rattle.transcript_model.specs.Laws.{AddsMark}
use Rattle.transcript_model.specs.Legal.{asks_of, is_mark}
use Rattle.transcript_model.specs.Rounds.{Limits}
use Rattle.transcript_model.specs.Transcript.{known_of, names_of, notes_of}
use Rattle.transcript_model.specs.Turns.{Kept, MayBegin}
use Rattle.transcript_model.specs.declared.entry.Call.{Call}
use Rattle.transcript_model.specs.declared.entry.DreamUse.{DreamUse}
use Rattle.transcript_model.specs.declared.entry.Entry.{Entry}
use Rattle.transcript_model.specs.declared.entry.Entry.TheVariants as entry
use Rattle.transcript_model.specs.declared.head.Mode.{Mode}
use Rattle.transcript_model.specs.declared.head.Mode.TheVariants.{Adaptive, Binding, Focused, Incremental}
use Rattle.replay_check.proofs.NextLemmas.{next_level, next_reset}
use Rattle.replay_check.proofs.PlacesLemmas.{may_here}
use Rattle.replay_check.proofs.StandingsMarkLemmas.{adds, begun_onward, closed_behind, idle_asks, mark_knowledge, mark_onward, may_behind, moves_onward}
use Rattle.replay_check.proofs.WalksLemmas.{is_taken, is_wrong}
use Rattle.replay_check.proofs.WrongLemmas.{mark_order, open_none, wrong_dream, wrong_none}
use Rattle.replay_check.specs.Breaches.{BeginsTurn}
use Rattle.replay_check.specs.Standings.{IsStanding, StandsBehind, limits_by}
use Rattle.replay_check.specs.Turns.{AreDueFor, AsksLevel, AsksOnce, GoesOnBehind, HasNothing, KeepsDream, RunsDream}
use Rattle.replay_check.specs.Verdicts.{IsOpenNone}
use Rattle.replay_check.specs.Walks.{CanTake, IsOpenAt, IsWrongAt}
use Rattle.replay_check.specs.declared.bounds.Bounds.{Bounds}
use Rattle.replay_check.specs.declared.standing.Standing.{Standing}
use Rattle.replay_check.specs.declared.verdict.BreachKind.TheVariants as kind

pub some_in : {A : Type 0} (xs : List A) → ¬ (xs ≡ []) → 0 < length xs
some_in [] some = absurd (some refl)
some_in (x ∷ xs) some = omega arith

module _ (b : Bounds) (entries : List Entry) (place : ℕ) (s : Standing) (can : CanTake b entries place s) where
  abbrev task : Task
  task = b.task.now

  abbrev before : List Entry
  before = take place entries

  abbrev limits : Limits
  limits = limits_by b

  abbrev stands : StandsBehind limits task before s.knowledge s.course
  stands = can.standing.stands

  abbrev here : ModePlace
  here = mode_place_in task before s.course

  -- the batch begins behind so many requests
  pub begins_counted : (dues : List Due) (n : ℕ) (new : ModeAgenda) (kept : ℕ → Kept) → n ≡ length s.knowledge.asked.items
      → BeginsBatch limits.pools dues n b.calls (kept n) new
      → BeginsBatch limits.pools dues (asks_of before) limits.calls (kept (asks_of before)) new
  begins_counted dues n new kept is begins =
      subst (λ m. BeginsBatch limits.pools dues m b.calls (kept m) new) (is ∙ stands.knowledge.counted) begins

  -- the line is the last of so many entries
  pub line_length : (e : Entry) → slice_get entries place ≡ Some e → place + 1 ≡ length (before ++ e ∷ [])
  line_length e there =
      let within = can.within in
      let front = length-take place entries in
      omega (arith, within, front, length-append before (e ∷ []))

  -- a dream's batches begin behind so many entries and so many requests
  moves_counted : (e : Entry) → slice_get entries place ≡ Some e → is_mark e ≡ true → (needs : List dreams.SupposedEntry) (real : ℕ)
      (new : ModeAgenda) (over : Phase)
      → MovesOn task s.knowledge.facts.known s.knowledge.queue [] limits.pools over limits.calls
      (with_run s.course needs real (place + 1) (length s.knowledge.asked.items)) new
      → MovesOn task s.knowledge.facts.known s.knowledge.queue [] limits.pools over limits.calls
      (with_run s.course needs real (length (before ++ e ∷ [])) (asks_of (before ++ e ∷ []))) new
  moves_counted e there mark needs real new over moves =
      let counted : length s.knowledge.asked.items ≡ asks_of (before ++ e ∷ []) =
      stands.knowledge.counted ∙ sym (adds limits task before s.knowledge s.course stands e mark).asks in
      subst (λ (old : ModeAgenda). MovesOn task s.knowledge.facts.known s.knowledge.queue [] limits.pools over limits.calls old new)
      (λ i. with_run s.course needs real (line_length e there i) (counted i)) moves

  -- ---- levels

  module _ (there : slice_get entries place ≡ Some entry.Level) where
    pub level_refused : ¬ (AsksLevel b.mode s.course) → IsWrongAt b entries place 0 kind.Order
    level_refused bad =
        is_wrong b entries place s can entry.Level there 0 kind.Order
        (mark_order b.limit limits task before entry.Level refl
        (λ begun. bad (next_level limits task before s.knowledge s.course stands begun).0))

    pub level_not_due : ¬ (MayBegin limits task before) → IsWrongAt b entries place 0 kind.Order
    level_not_due bad =
        is_wrong b entries place s can entry.Level there 0 kind.Order
        (mark_order b.limit limits task before entry.Level refl
        (λ begun. bad (next_level limits task before s.knowledge s.course stands begun).1))

    module _ (new : Standing) (dues : List Due) (knowledge : new.knowledge ≡ s.knowledge) (due : AreDueFor limits task before dues)
        (begins : BeginsBatch limits.pools dues (asks_of before) limits.calls s.course.kept new.course) where
      level_stands : AsksLevel b.mode s.course
          → StandsBehind limits task (before ++ entry.Level ∷ []) s.knowledge new.course
      level_stands (inl (mode, between)) =
          let awaits = between_awaits task before s.course between in
          begun_onward limits task before s.knowledge s.course stands entry.Level refl new.course awaits.answered
          (begins_level (level_made limits task before s.course new.course can.bounds.workers dues mode awaits due.0 due.1 begins))
          dues s.course.kept begins
      level_stands (inr (nothing, untried)) =
          let awaits = undreamt_awaits task before s.course nothing.0 in
          let all : AreDue task (known_of task before) (notes_of task before) (due_instances dues) =
          subst (AreDue task (known_of task before) (notes_of task before)) (sym due.1) due.0.due in
          begun_onward limits task before s.knowledge s.course stands entry.Level refl new.course awaits.answered
          (falls_back
          (fallback_made limits task before s.course new.course can.bounds.workers dues awaits nothing.1 untried all begins))
          dues s.course.kept begins

      pub level_taken : AsksLevel b.mode s.course → IsStanding b (take (place + 1) entries) new
      level_taken asks =
          is_taken b entries place s can entry.Level there new
          (subst (λ (l : Knowledge). StandsBehind limits task (before ++ entry.Level ∷ []) l new.course) (sym knowledge) (level_stands asks))
          (λ is. absurd (cc))

  -- ---- resets

  module _ (there : slice_get entries place ≡ Some entry.Reset) where
    pub reset_refused : ¬ (HasNothing b.mode s.course × (0 < length s.course.kept.tried))
        → IsWrongAt b entries place 0 kind.Order
    reset_refused bad =
        is_wrong b entries place s can entry.Reset there 0 kind.Order
        (mark_order b.limit limits task before entry.Reset refl
        (λ begun. bad (next_reset limits task before s.knowledge s.course stands begun)))

    pub reset_taken : (new : Standing) → HasNothing b.mode s.course
        → 0 < length s.course.kept.tried → new.knowledge ≡ s.knowledge → new.course.batch ≡ s.course.batch
        → new.course.phase ≡ resting → new.course.kept ≡ forgetting s.course.kept
        → IsStanding b (take (place + 1) entries) new
    reset_taken new nothing some knowledge batch phase kept =
        let awaits = undreamt_awaits task before s.course nothing.0 in
        let idle = idle_asks limits task before s.knowledge s.course stands entry.Reset refl awaits.answered in
        is_taken b entries place s can entry.Reset there new
        (subst (λ (l : Knowledge). StandsBehind limits task (before ++ entry.Reset ∷ []) l new.course) (sym knowledge)
        (mark_onward limits task before s.knowledge s.course stands entry.Reset refl new.course awaits.answered
        (resets (reset_made limits task before s.course new.course idle awaits nothing.1 some batch phase kept)) batch
        (ap is_repeated phase) (λ is. absurd (phases_differ (sym phase ∙ is))))) (λ is. absurd (cc))

  -- ---- turns that begin

  module _ (begins : BeginsTurn limits task before) where
    may : MayDream limits task before here
    may = may_here limits task before here stands.leads begins

    left : Leaves limits task before s.course.kept
    left = kept_left limits task before here stands.leads s.course.kept can.bounds.workers may.awaits refl

    alone : (k : Kept) → Leaves limits task before k → k ≡ s.course.kept
    alone k there = (left_kept limits task before here stands.leads k there).1

    idle : s.course.batch.to_ask ≡ []
    idle = idle_asks limits task before s.knowledge s.course stands entry.Nothing refl may.awaits.answered

    -- ---- dreams

    module _ (uses : List DreamUse) (steps : List Call) (there : slice_get entries place ≡ Some (entry.Dream uses steps)) where
      pub dream_wrong : (offset : ℕ) → 0 < length uses
          → IsFirstWrongLine limits task before s.course.kept.tried uses steps offset
          → IsWrongAt b entries place offset kind.Dream
      dream_wrong offset some wrong =
          is_wrong b entries place s can (entry.Dream uses steps) there offset kind.Dream
          (wrong_dream b.limit limits task before begins s.course.kept left alone uses steps offset some wrong)

      module _ (needs : List dreams.SupposedEntry) (dream : IsDreamAfter limits task before s.course.kept.tried uses steps needs)
          (new : Standing) where
        abbrev line : Entry
        line = entry.Dream uses steps

        abbrev marked : List Entry
        marked = before ++ line ∷ []

        adds_line : AddsMark task before marked
        adds_line = adds limits task before s.knowledge s.course stands line refl

        known_behind : s.knowledge.facts.known ≡ known_of task marked
        known_behind = stands.knowledge.known ∙ sym adds_line.same.known

        notes_behind : s.knowledge.queue ≡ notes_of task marked
        notes_behind = stands.knowledge.notes ∙ sym adds_line.same.notes

        real_is : length s.knowledge.facts.known.names ≡ length (names_of task before)
        real_is = ap (λ (k : Known). length k.names) stands.knowledge.known

        -- the judge stands behind the dream's line
        dream_onward : new.knowledge ≡ s.knowledge → StandsBehind limits task marked s.knowledge new.course
            → IsStanding b (take (place + 1) entries) new
        dream_onward same there_stands =
            is_taken b entries place s can line there new
            (subst (λ (l : Knowledge). StandsBehind limits task marked l new.course) (sym same) there_stands) (λ is. absurd (cc))

        -- ---- its one batch

        module _ (h : AsksOnce b needs s new) where
          -- what is asked of it is what the definition of turns asks first
          asked_first : due_instances h.dues ≡ sent_instances (sent_first task (length (names_of task before)) marked needs)
          asked_first =
              h.asks.instances ∙ (λ i. first_instances task (known_behind i) (notes_behind i) (real_is i) needs)
              ∙ sym (first_sent task marked (length (names_of task before)) (asks_of marked + 1) needs
              (dream_distinct limits task before s.course.kept.tried uses steps needs dream))

          once_taken : b.mode ≡ Focused → IsStanding b (take (place + 1) entries) new
          once_taken mode =
              let kept = λ (n : ℕ). joining s.course.kept (take (b.calls - n) (due_instances h.dues)) in
              let begun = begins_counted h.dues (length s.knowledge.asked.items) new.course kept refl h.begins in
              dream_onward h.knowledge_is
              (begun_onward limits task before s.knowledge s.course stands line refl new.course may.awaits.answered
              (tells_dream (dream_made limits task before s.course new.course can.bounds.workers h.dues mode uses steps needs may dream
              asked_first begun)) h.dues (kept (asks_of before)) begun)

        -- ---- the first of several batches

        run_taken : b.mode ≡ Binding → RunsDream b (place + 1) needs s new → IsStanding b (take (place + 1) entries) new
        run_taken mode h =
            let known = s.knowledge.facts.known in
            let notes = s.knowledge.queue in
            let real = length known.names in
            let same = adds_line.asks in
            let left = stands.counts.left in
            let closed = closed_behind limits task before s.knowledge s.course stands line refl may.awaits.answered in
            let knowledge = mark_knowledge limits task before s.knowledge s.course stands line refl in
            let moves : MovesOn task known notes [] limits.pools resting limits.calls
            (with_run s.course needs real (length marked) (asks_of marked)) new.course =
            moves_counted line there refl needs real new.course resting h.moves in
            let run = run_followed limits.pools can.bounds.workers limits.calls marked task known notes closed
            (omega (arith, same, left)) s.course new.course needs real moves in
            dream_onward h.knowledge_is
            (moves_onward limits task before s.knowledge s.course stands line refl new.course may.awaits.answered
            (tells_dream (run_made limits task before s.course new.course can.bounds.workers limits.version can.bounds.fit known notes
            mode uses steps needs may dream knowledge.legal closed known_behind notes_behind real (length marked) (asks_of marked) real_is
            refl moves)) known notes resting needs real (length marked) (asks_of marked) new.course refl same moves refl refl run)

        -- ---- it is kept

        keep_taken : b.mode ≡ Adaptive → KeepsDream needs s new → IsStanding b (take (place + 1) entries) new
        keep_taken mode h =
            let kept : new.course.kept ≡ keeping s.course.kept needs (length (names_of task before)) =
            h.kept_is ∙ ap (keeping s.course.kept needs) real_is in
            dream_onward h.knowledge_is
            (mark_onward limits task before s.knowledge s.course stands line refl new.course may.awaits.answered
            (tells_dream (keep_made limits task before s.course new.course mode idle uses steps needs may dream h.batch_is h.phase_is
            kept)) h.batch_is (ap is_repeated h.phase_is)
            (λ is. absurd (let both : dreamt ≡ undreamt = sym h.phase_is ∙ is in cc)))

        -- in each mode that dreams
        by_mode : (m : Mode) → b.mode ≡ m → GoesOnBehind m b (place + 1) needs s new → IsStanding b (take (place + 1) entries) new
        by_mode Incremental mode h = absurd (may.mode mode)
        by_mode Focused mode h = once_taken h mode
        by_mode Binding mode h = run_taken mode h
        by_mode Adaptive mode h = keep_taken mode h

        pub dream_taken : GoesOnBehind b.mode b (place + 1) needs s new → IsStanding b (take (place + 1) entries) new
        dream_taken h = by_mode b.mode refl h

    -- ---- the want of a dream

    module _ (there : slice_get entries place ≡ Some entry.Nothing) where
      closed : ¬ (IsUndecidedNone limits task before s.course.kept.tried b.limit) → ¬ (IsOpenNone b.limit limits task before)
      closed decided (k, leaves, unsure) =
          decided (subst (λ (x : Kept). IsUndecidedNone limits task before x.tried b.limit) (alone k leaves) unsure)

      pub none_false : ¬ (HasNoDreamAfter limits task before s.course.kept.tried)
          → ¬ (IsUndecidedNone limits task before s.course.kept.tried b.limit) → IsWrongAt b entries place 0 kind.Outcome
      none_false bad decided =
          is_wrong b entries place s can entry.Nothing there 0 kind.Outcome
          (wrong_none b.limit limits task before begins s.course.kept left alone bad (closed decided))

      pub none_open : IsUndecidedNone limits task before s.course.kept.tried b.limit → IsOpenAt b entries place
      none_open unsure = record {
        before = s;
        standing = can.standing;
        e = entry.Nothing;
        there = there;
        is = open_none b.limit limits task before begins s.course.kept left alone (s.course.kept, left, unsure);
      }

      pub none_taken : (new : Standing) → HasNoDreamAfter limits task before s.course.kept.tried
          → ¬ (IsUndecidedNone limits task before s.course.kept.tried b.limit) → new.knowledge ≡ s.knowledge
          → new.course.batch ≡ s.course.batch → new.course.phase ≡ undreamt → new.course.kept ≡ s.course.kept
          → IsStanding b (take (place + 1) entries) new
      none_taken new no_dream decided knowledge batch phase kept =
          let awaits : AwaitsPhase (mode_place_in task (before ++ entry.Nothing ∷ []) new.course) undreamt = record {
            phase_is = phase;
            answered = ap (λ x. x.answers) batch ∙ may.awaits.answered;
            uncut = ap (λ x. x.is_cut) batch ∙ may.awaits.uncut;
          } in
          is_taken b entries place s can entry.Nothing there new
          (subst (λ (l : Knowledge). StandsBehind limits task (before ++ entry.Nothing ∷ []) l new.course) (sym knowledge)
          (mark_onward limits task before s.knowledge s.course stands entry.Nothing refl new.course may.awaits.answered
          (tells_none (none_made limits task before s.course new.course idle may no_dream batch phase kept)) batch
          (ap is_repeated phase) (λ is. (awaits, may_behind limits task before s.knowledge s.course stands entry.Nothing refl may.may))))
          (λ is. closed decided)

  -- ---- turns that may not begin

  pub dream_refused : (uses : List DreamUse) (steps : List Call) → slice_get entries place ≡ Some (entry.Dream uses steps)
      → ¬ (BeginsTurn limits task before × (0 < length uses)) → IsWrongAt b entries place 0 kind.Order
  dream_refused uses steps there bad =
      is_wrong b entries place s can (entry.Dream uses steps) there 0 kind.Order
      (mark_order b.limit limits task before (entry.Dream uses steps) refl bad)

  pub none_refused : slice_get entries place ≡ Some entry.Nothing → ¬ (BeginsTurn limits task before)
      → IsWrongAt b entries place 0 kind.Order
  none_refused there bad =
      is_wrong b entries place s can entry.Nothing there 0 kind.Order
      (mark_order b.limit limits task before entry.Nothing refl bad)
