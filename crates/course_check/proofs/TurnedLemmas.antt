-- Entries that lead somewhere are turns, by their first entry.
use Rattle.std.proofs.Common.{◌≡◌, ◌⊎◌, ℕ, zero, suc, ◌<◌, ◌≤◌, inl, inr, All, Bool, false, List, [], ◌∷◌, ◌++◌, length, take, refl, sym, subst, arith, append_assoc}
use Rattle.course_check.specs.Courses.{Opens}
use Rattle.course_check.proofs.DreamTurnedLemmas.{dream_turned}
use Rattle.course_check.proofs.NoneLemmas.{completed, forgets, may_pick, none_turn}
use Rattle.course_check.proofs.OpensLemmas.{AreRun}
use Rattle.course_check.proofs.PartTurnedLemmas.{Shorter, Turned, as_it_is, batch_turned, level_of, level_turned}
use Rattle.course_check.proofs.PickTurnedLemmas.{AreGivenUp, pick_stops, picks_turned}
use Rattle.course_check.proofs.StepsLemmas.{awaits_one, awaits_two, pick_unasked, rest_pick, rest_unasked, still_open}
use Rattle.course_check.specs.Places.{AwaitsPhase, AwaitsLine, HasNoneToPick, IsFallbackStep, IsNoneStep, IsResetStep, IsModeStep, LeadsOn, ModePlace, begins_level, falls_back, forgetting, goes_on, picks, resets, resting, retires, tells_dream, tells_none, unasked, undreamt}
use Rattle.turn_laws.specs.Modes.{TurnOf}
use Rattle.task_model.specs.declared.stream.Instance.{Instance}
use Rattle.task_model.specs.declared.task.Task.{Task}
use Rattle.transcript_model.proofs.LegalNumberLemmas.{asks_marked}
use Rattle.transcript_model.specs.Legal.{asks_of}
use Rattle.transcript_model.specs.Rounds.{Limits, Share, calls_left}
use Rattle.transcript_model.specs.Turns.{IsFallback, IsPickTurn, Kept, between, inside, is_cut, level, none_left, stopped, whole}
use Rattle.transcript_model.specs.declared.entry.Entry.{Entry}
use Rattle.transcript_model.specs.declared.entry.Entry.TheVariants as entry
use Rattle.transcript_model.specs.declared.head.Mode.{Mode}
use Rattle.transcript_model.specs.declared.head.Mode.TheVariants.{Adaptive}

module _ (limits : Limits) (task : Task) (workers : All (λ (s : Share). 1 ≤ s.workers) limits.pools) (n : ℕ)
    (shorter : Shorter limits task n) where
  -- ---- turns without a dream

  module _ (before : List Entry) (p : ModePlace) (e : Entry) (m : ModePlace) (s : IsNoneStep limits task before p e m) where
    -- behind the line
    abbrev behind : ModePlace
    behind = record { batch = p.batch; phase = undreamt; kept = p.kept }

    abbrev marked : List Entry
    marked = before ++ entry.Nothing ∷ []

    waits : AwaitsPhase behind undreamt
    waits = record { phase_is = refl; answered = s.may.awaits.answered; uncut = s.may.awaits.uncut }

    reset_turned : (es : List Entry) (x : Entry) (r q : ModePlace) → length es ≤ n → IsResetStep limits behind x r
        → LeadsOn limits task r (marked ++ x ∷ []) es q → Turned limits task p.kept before (entry.Nothing ∷ x ∷ es) q
    reset_turned es x r q few t leads =
        let next = forgetting p.kept in
        let after : ModePlace = record { batch = p.batch; phase = resting; kept = next } in
        let later : LeadsOn limits task after (before ++ entry.Nothing ∷ entry.Reset ∷ []) es q =
        subst (λ xs. LeadsOn limits task after xs es q) (append_assoc before (entry.Nothing ∷ []) (entry.Reset ∷ []))
        (subst (λ (y : Entry). LeadsOn limits task after (marked ++ y ∷ []) es q) t.is
        (subst (λ (z : ModePlace). LeadsOn limits task z (marked ++ x ∷ []) es q) t.after_is leads)) in
        let u = shorter (before ++ entry.Nothing ∷ entry.Reset ∷ []) es after q few
        (record { phase_is = refl; answered = s.may.awaits.answered; uncut = s.may.awaits.uncut }) later in
        let this : TurnOf limits.mode limits task p.kept before (entry.Nothing ∷ entry.Reset ∷ []) next false =
        none_turn limits task before p.kept s.may.mode s.no_dream t.no_skeleton (entry.Reset ∷ []) next false
        (forgets limits task marked p.kept.tried t.tried) refl refl in
        subst (λ (y : Entry). Turned limits task p.kept before (entry.Nothing ∷ y ∷ es) q) (sym t.is)
        (record { stage = u.stage; at = u.at; turns = whole next s.may.may this u.turns })

    fallback_turned : (es : List Entry) (x : Entry) (r q : ModePlace) → length es ≤ n → IsFallbackStep limits task marked behind x r
        → LeadsOn limits task r (marked ++ x ∷ []) es q → Turned limits task p.kept before (entry.Nothing ∷ x ∷ es) q
    fallback_turned es x r q few t leads =
        let list = take (calls_left limits marked) t.list in
        let cut = is_cut limits marked t.list in
        let after : ModePlace = record { batch = t.batch; phase = resting; kept = p.kept } in
        let joined : marked ++ entry.Level ∷ [] ≡ before ++ entry.Nothing ∷ entry.Level ∷ [] =
        append_assoc before (entry.Nothing ∷ []) (entry.Level ∷ []) in
        let later : LeadsOn limits task after (before ++ entry.Nothing ∷ entry.Level ∷ []) es q =
        subst (λ xs. LeadsOn limits task after xs es q) joined
        (subst (λ (y : Entry). LeadsOn limits task after (marked ++ y ∷ []) es q) t.is
        (subst (λ (z : ModePlace). LeadsOn limits task z (marked ++ x ∷ []) es q) t.after_is leads)) in
        let turn : (now : List Entry) → AreRun limits task (before ++ entry.Nothing ∷ entry.Level ∷ []) list now
        → TurnOf limits.mode limits task p.kept before (entry.Nothing ∷ entry.Level ∷ now) p.kept cut =
        λ now run. none_turn limits task before p.kept s.may.mode s.no_dream t.no_skeleton (entry.Level ∷ now) p.kept cut
        (subst (λ (is : List Instance). IsFallback limits task marked is (entry.Level ∷ now) cut) (sym t.untried)
        (level (level_of limits task marked now t.list t.due
        (subst (λ xs. AreRun limits task xs list now) (sym joined) run)))) t.untried refl in
        subst (λ (y : Entry). Turned limits task p.kept before (entry.Nothing ∷ y ∷ es) q) (sym t.is)
        (batch_turned limits task workers n shorter p.kept before (entry.Nothing ∷ entry.Level ∷ []) s.may.may list cut t.batch p.kept
        (subst (λ xs. Opens limits task xs list cut t.batch) joined t.opens) turn es q few later)

    -- where a skeleton is picked
    old_turn : limits.mode ≡ Adaptive → (now : List Entry) (next : Kept) (cut : Bool)
        → IsPickTurn limits task p.kept marked now next cut
        → TurnOf limits.mode limits task p.kept before (entry.Nothing ∷ now) next cut
    old_turn mode now next cut pick =
        subst (λ (x : Mode). TurnOf x limits task p.kept before (entry.Nothing ∷ now) next cut) (sym mode)
        (inr (inl (record { none = s.no_dream; rest = now; is = refl; pick = pick })))

    left : asks_of marked < limits.calls
    left = let less = s.may.may.left in omega (arith, less, asks_marked before entry.Nothing refl)

    -- the entries stop behind the line
    none_stops : (q : ModePlace) → behind ≡ q
        → HasNoneToPick limits.mode p.kept ⊎ ((limits.mode ≡ Adaptive) × ¬ (AreGivenUp p.kept.skeletons))
        → Turned limits task p.kept before (entry.Nothing ∷ []) q
    none_stops q is (inl no_skeleton) =
        let c = completed limits task before p.kept s.may.mode s.no_dream no_skeleton workers s.may.may in
        record {
          stage = inside;
          at = inr (subst AwaitsLine is (record { line = refl; answered = waits.answered; uncut = waits.uncut }));
          turns = stopped c.next c.more c.cut s.may.may c.turn;
        }
    none_stops q is (inr (mode, some)) =
        pick_stops limits task workers n shorter p.kept before (entry.Nothing ∷ []) s.may.may behind (old_turn mode) q (inr waits) some is

    none_then : (es : List Entry) (q : ModePlace) → length es ≤ n → LeadsOn limits task behind marked es q
        → Turned limits task p.kept before (entry.Nothing ∷ es) q
    none_then [] q few leads = none_stops q leads (may_pick limits.mode p.kept)
    none_then (x ∷ xs) q few (r, goes_on b t r_is, more) = still_open limits task marked behind x b undreamt t waits
    none_then (x ∷ xs) q few (r, begins_level t, more) = awaits_one behind t.awaits waits
    none_then (x ∷ xs) q few (r, tells_dream t, more) = awaits_one behind t.may.awaits waits
    none_then (x ∷ xs) q few (r, tells_none t, more) = awaits_one behind t.may.awaits waits
    none_then (x ∷ xs) q few (r, resets t, more) = reset_turned xs x r q (omega (arith, few)) t more
    none_then (x ∷ xs) q few (r, falls_back t, more) = fallback_turned xs x r q (omega (arith, few)) t more
    none_then (x ∷ xs) q few (r, picks t, more) =
        picks_turned limits task workers n shorter p.kept before (entry.Nothing ∷ []) s.may.may behind (old_turn t.mode) x r t left
        xs q (omega (arith, few)) more
    none_then (x ∷ xs) q few (r, retires t, more) = pick_unasked behind t.place (inr waits) t.awaits

  none_turned : (before es : List Entry) (e : Entry) (p m q : ModePlace) → length es ≤ n
      → IsNoneStep limits task before p e m → LeadsOn limits task m (before ++ e ∷ []) es q
      → Turned limits task p.kept before (e ∷ es) q
  none_turned before es e p m q few s leads =
      as_it_is limits task p.kept before es e entry.Nothing m (record { batch = p.batch; phase = undreamt; kept = p.kept }) q s.is
      s.after_is leads (none_then before p e m s es q few)

  -- by its first step
  first_turned : (before es : List Entry) (e : Entry) (p m q : ModePlace) → length es ≤ n → AwaitsPhase p resting
      → IsModeStep limits task before p e m → LeadsOn limits task m (before ++ e ∷ []) es q
      → Turned limits task p.kept before (e ∷ es) q
  first_turned before es e p m q few rests (goes_on b s m_is) leads = still_open limits task before p e b resting s rests
  first_turned before es e p m q few rests (begins_level s) leads = level_turned limits task workers n shorter before es e p m q few s leads
  first_turned before es e p m q few rests (tells_dream s) leads = dream_turned limits task workers n shorter before es e p m q few s leads
  first_turned before es e p m q few rests (tells_none s) leads = none_turned before es e p m q few s leads
  first_turned before es e p m q few rests (resets s) leads = awaits_one p rests s.awaits
  first_turned before es e p m q few rests (falls_back s) leads = awaits_one p rests s.awaits
  first_turned before es e p m q few rests (picks s) leads = rest_pick p rests s.awaits
  first_turned before es e p m q few rests (retires s) leads =
      awaits_two p resting (unasked s.place) (rest_unasked s.place) rests s.awaits

-- ---- all turns

pub turned : (limits : Limits) (task : Task) → All (λ (s : Share). 1 ≤ s.workers) limits.pools → (n : ℕ) → Shorter limits task n
turned limits task workers n before [] p q few rests leads =
    record { stage = between; at = subst (λ (x : ModePlace). AwaitsPhase x resting) leads rests; turns = none_left }
turned limits task workers zero before (e ∷ es) p q few rests leads = absurd (omega (arith, few))
turned limits task workers (suc n) before (e ∷ es) p q few rests (m, step, more) =
    first_turned limits task workers n (turned limits task workers n) before es e p m q (omega (arith, few)) rests step more
