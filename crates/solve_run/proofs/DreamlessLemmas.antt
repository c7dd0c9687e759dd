-- What a turn without a dream has done, and what would go on as one.
use Rattle.std.proofs.Common.{All, map, not, IsTrue, ◌↔◌, Option, ◌≡◌, ◌⊎◌, ℕ, ◌<◌, ◌≤◌, arith, nat_lt, Bool, true, false, cond, count_by, List, [], ◌∷◌, ◌++◌, length, refl, sym, ap, subst, ◌∙◌, append_assoc, inl, inr}
use Rattle.std.proofs.lemmas.Bool.{lt-ltb}
use Rattle.std.specs.Prelude.{⊤}
use Rattle.solve_run.proofs.FocusingLemmas.{empty_front, empty_turn}
use Rattle.solve_run.specs.Focusing.{BeginsFocusedTurn, MayFallBack, RanDreaming, carrying, idle_of}
use Rattle.instance_queue.specs.Level.{due_instances}
use Rattle.instance_queue.specs.declared.due.Due.{Due}
use Rattle.io_world.specs.Talks.{Talk}
use Rattle.turn_run.proofs.AskingLemmas.{asked_marked}
use Rattle.solve_run.proofs.LevelsLemmas.{front_fallback, front_level, front_reset, level_counts}
use Rattle.turn_run.proofs.ShortDreamLemmas.{turn_short}
use Rattle.turn_run.proofs.TurnsLevelLemmas.{batch_asks, turn_marked}
use Rattle.turn_run.proofs.TurnsOutcomeLemmas.{spent_sure}
use Rattle.turn_run.specs.Advancing.{Falls, StandsBetween, IsFrontOfTurn}
use Rattle.turn_run.specs.Turns.{HasShortDreams, cut_by}
use Rattle.solve_run.specs.Levels.{IsFrontOfFallback, RanFallback}
use Rattle.round_run.specs.TurnLines.{IsMarked}
use Rattle.turn_run.specs.declared.turns.Turned.{Turned}
use Rattle.turn_run.specs.declared.turns.Turned.TheVariants as turned
use Rattle.turn_laws.specs.Modes.{TurnOf}
use Rattle.round_run.specs.Held.{Held}
use Rattle.round_run.specs.Resting.{Rests}
use Rattle.round_run.specs.declared.ending.Batch.{Batch}
use Rattle.round_run.specs.declared.ending.Batch.TheVariants.{Done, CallsSpent}
use Rattle.lemmas.proofs.Counts.{count_joined}
use Rattle.session_core.specs.State.{State}
use Rattle.task_model.specs.Fit.{IsFit}
use Rattle.task_model.specs.declared.stream.Instance.{Instance}
use Rattle.task_model.specs.declared.task.Task.{Task}
use Rattle.transcript_model.specs.Dreaming.{HasNoDreamAfter}
use Rattle.transcript_model.specs.Legal.{IsLegal, is_level}
use Rattle.transcript_model.specs.Rounds.{Limits, Share, limits_of, share_of}
use Rattle.transcript_model.specs.Turns.{IsFallback, IsLevel, Skeleton, level, reset}
use Rattle.transcript_model.specs.declared.entry.Entry.{Entry}
use Rattle.transcript_model.specs.declared.entry.Entry.TheVariants as entry
use Rattle.transcript_model.specs.declared.head.Head.{Head}

-- ---- what follows a `none`

-- all is forgotten by a line that is no level's
no_levels : (limits : Limits) (task : Task) (before : List Entry) (tried : List Instance) (now : List Entry) (cut : Bool)
    → IsFallback limits task before tried now cut → nat_lt 0 (length tried) ≡ true → count_by is_level now ≡ 0
no_levels limits task before tried now cut (reset first more) = λ some. refl
no_levels limits task before tried now cut (level this) = λ some. absurd (cc)

-- where nothing was tried it is a level
is_one_level : (limits : Limits) (task : Task) (before : List Entry) (tried : List Instance) (now : List Entry) (cut : Bool)
    → IsFallback limits task before tried now cut → nat_lt 0 (length tried) ≡ false → IsLevel limits task before now cut
is_one_level limits task before tried now cut (reset first more) = λ none.
    absurd (let bad : true ≡ false = sym (lt-ltb 0 (length (first ∷ more)) (omega arith)) ∙ none in cc)
is_one_level limits task before tried now cut (level this) = λ none. this

-- whether something was tried
pub some_tried : (tried : List Instance) (none : Bool) → IsTrue none ↔ (tried ≡ []) → nat_lt 0 (length tried) ≡ not none
some_tried [] true same = refl
some_tried [] false same = absurd (let bad : false ≡ true = same.1 refl in cc)
some_tried (first ∷ more) true same = absurd (let bad : first ∷ more ≡ [] = same.0 refl in cc)
some_tried (first ∷ more) false same = lt-ltb 0 (length (first ∷ more)) (omega arith)

-- ---- the turn

module _ (head : Head) (task : Task) (skeletons : List Skeleton) (may : MayFallBack head.mode skeletons) (tried : List Instance)
    (dues : List Due)
    (old mid new : State) (marked : IsMarked entry.Nothing old mid)
    (none : HasNoDreamAfter (limits_of head) task old.entries tried) (begins : BeginsFocusedTurn task head old dues) (is_tried : Bool)
    (even : nat_lt 0 (length tried) ≡ is_tried) (b : Batch) (ran : RanFallback task head is_tried dues mid new b) where
  fallback : IsFallback (limits_of head) task mid.entries tried ran.more (cut_by b)
  fallback = ran.fallback tried even

  pushed : new.entries ≡ old.entries ++ entry.Nothing ∷ ran.more
  pushed = ran.pushed ∙ ap (λ es. es ++ ran.more) marked.entries ∙ append_assoc old.entries (entry.Nothing ∷ []) ran.more

  turn : TurnOf head.mode (limits_of head) task (carrying skeletons tried) old.entries (entry.Nothing ∷ ran.more)
      (carrying skeletons []) (cut_by b)
  turn =
      empty_turn head task skeletons may tried old.entries ran.more (cut_by b) none
      (subst (λ es. IsFallback (limits_of head) task es tried ran.more (cut_by b)) marked.entries fallback)

  short : HasShortDreams head.states (entry.Nothing ∷ ran.more)
  short =
      turn_short head task (carrying skeletons tried) old.entries (entry.Nothing ∷ ran.more) (carrying skeletons []) (cut_by b)
      turn tt

  asks_some : is_tried ≡ false → length old.asked < length new.asked
  asks_some untried =
      let more = batch_asks task new.entries (length mid.asked) (length new.asked) head.calls (length dues) b
      (omega (arith, ap length marked.asked, begins.turn.left)) begins.turn.some (ran.level untried) in
      omega (arith, more, ap length marked.asked)

  asks_none : is_tried ≡ true → length new.asked ≡ length old.asked
  asks_none reset_all = ap length ((ran.reset reset_all).1 ∙ marked.asked)

  -- a level asked something; else what was tried is forgotten
  falls : (t : Bool) → is_tried ≡ t → Falls (length old.asked) (idle_of tried) (length new.asked) (idle_of [])
  falls true = λ there. inr (asks_none there, (let one : idle_of tried ≡ 1 = ap (λ c. cond c 1 0) (even ∙ there) in omega (arith, one)))
  falls false = λ untried. inl (asks_some untried)

  mid_levels : count_by is_level mid.entries ≡ count_by is_level old.entries
  mid_levels =
      let one : count_by is_level (entry.Nothing ∷ []) ≡ 0 = refl in
      omega (arith, ap (count_by is_level) marked.entries, count_joined is_level old.entries (entry.Nothing ∷ []), one)

  levels : (t : Bool) → is_tried ≡ t → count_by is_level new.entries ≤ length new.asked
  levels true = λ there. omega (
    arith,
    begins.levels,
    asks_none there,
    mid_levels,
    ap (count_by is_level) ran.pushed,
    count_joined is_level mid.entries ran.more,
    no_levels (limits_of head) task mid.entries tried ran.more (cut_by b) fallback (even ∙ there),
  )
  levels false = λ untried. omega (
    arith,
    begins.levels,
    asks_some untried,
    mid_levels,
    level_counts head task mid.entries new.entries b
        (ran.more, ran.pushed, is_one_level (limits_of head) task mid.entries tried ran.more (cut_by b) fallback (even ∙ untried)),
  )

  fits : StandsBetween (λ asked. ⊤) (idle_of []) new
  fits = record { holds = tt; room = omega arith; levels = levels is_tried refl }

  -- only a level can be cut
  untried : b ≡ CallsSpent → (t : Bool) → is_tried ≡ t → is_tried ≡ false
  untried e true = λ there. absurd (let bad : Done ≡ CallsSpent = sym (ran.reset there).0 ∙ e in cc)
  untried e false = λ no. no

  is_whole : b ≡ Done → RanDreaming task head skeletons tried [] old new turned.Done
  is_whole e = record {
    turned = (
      entry.Nothing ∷ ran.more,
      pushed,
      subst (λ c. TurnOf head.mode (limits_of head) task (carrying skeletons tried) old.entries (entry.Nothing ∷ ran.more)
          (carrying skeletons []) c)
          (ap cut_by e) turn,
      short,
    );
    falls = λ done. falls is_tried refl;
    fits = fits;
  }

  module _ (held : Held) (running : ℕ → Bool) (spoken : ℕ → Option Talk) (rests : Rests task head new held running spoken) where
    is_cut_off : b ≡ CallsSpent → RanDreaming task head skeletons tried [] old new turned.Spent
    is_cut_off e = record {
      turned = (
        entry.Nothing ∷ ran.more,
        carrying skeletons [],
        pushed,
        subst (λ c. TurnOf head.mode (limits_of head) task (carrying skeletons tried) old.entries
            (entry.Nothing ∷ ran.more) (carrying skeletons []) c)
            (ap cut_by e) turn,
        spent_sure head task new (length mid.asked) (length dues) b rests.works.listens.working rests.works.learnt
            rests.works.listens.session rests.works.of e (ran.level (untried e is_tried refl)),
        short,
      );
      falls = λ done. falls is_tried refl;
      fits = fits;
    }

    pub ran_dreamless : (t : Turned) → (b ≡ Done → t ≡ turned.Done) → (b ≡ CallsSpent → t ≡ turned.Spent)
        → RanDreaming task head skeletons tried [] old new t
    ran_dreamless t done spent = by b refl
      where
        by : (c : Batch) → b ≡ c → RanDreaming task head skeletons tried [] old new t
        by Done = λ e. subst (RanDreaming task head skeletons tried [] old new) (sym (done e)) (is_whole e)
        by CallsSpent = λ e. subst (RanDreaming task head skeletons tried [] old new) (sym (spent e)) (is_cut_off e)

-- ---- what would go on as the turn

module _ (head : Head) (task : Task) (skeletons : List Skeleton) (may : MayFallBack head.mode skeletons) (fit : IsFit task)
    (tried : List Instance) (dues : List Due)
    (s : State) (legal : IsLegal head.version task s.entries) (begins : BeginsFocusedTurn task head s dues)
    (work : All (λ (p : Share). 1 ≤ p.workers) (map share_of head.pools))
    (none : HasNoDreamAfter (limits_of head) task s.entries tried) where
  -- a fallback behind the line of a `none`
  some_fallback : (is_tried : Bool)
      → IsFrontOfFallback head task is_tried (s.entries ++ entry.Nothing ∷ []) (s.entries ++ entry.Nothing ∷ [])
  some_fallback true = front_reset head task (s.entries ++ entry.Nothing ∷ []) (s.entries ++ entry.Nothing ∷ []) (inl refl)
  some_fallback false =
      let mid = s.entries ++ entry.Nothing ∷ [] in
      front_fallback head task mid mid
      (front_level head task mid (length s.asked) dues
      (turn_marked head task s.entries (length s.asked) dues entry.Nothing refl fit legal begins.turn) mid
      (asked_marked head task mid entry.Level (due_instances dues) mid work (inl refl)))

  -- the line is there, or not yet
  pub dreamless_marked : (es : List Entry) → (es ≡ s.entries) ⊎ (es ≡ s.entries ++ entry.Nothing ∷ [])
      → IsFrontOfTurn task head (carrying skeletons tried) s.entries es
  dreamless_marked es (inl is) = inl is
  dreamless_marked es (inr is) =
      subst (IsFrontOfTurn task head (carrying skeletons tried) s.entries) (sym is)
      (empty_front head task skeletons may tried (nat_lt 0 (length tried)) s.entries (s.entries ++ entry.Nothing ∷ [])
      (s.entries ++ entry.Nothing ∷ []) none refl refl (some_fallback (nat_lt 0 (length tried))))
