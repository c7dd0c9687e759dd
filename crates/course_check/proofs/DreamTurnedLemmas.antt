-- Entries that lead on from the line of a dream are turns.
use Rattle.std.proofs.Common.{◌≡◌, ℕ, ◌≤◌, ◌<◌, inl, All, Bool, false, List, [], ◌∷◌, ◌++◌, length, take, refl, sym, ap, subst, arith}
use Rattle.std.proofs.lemmas.List.{append-nil, take-map}
use Rattle.lemmas.proofs.Bools.{not_both}
use Rattle.lemmas.proofs.ListTests.{all_at}
use Rattle.lemmas.proofs.Members.{get_at_length}
use Rattle.course_check.proofs.OpensLemmas.{AreRun}
use Rattle.course_check.proofs.PartTurnedLemmas.{Shorter, Turned, as_it_is, batch_turned, run_turned}
use Rattle.course_check.proofs.PickTurnedLemmas.{AreGivenUp, pick_stops, picks_turned}
use Rattle.course_check.proofs.StepsLemmas.{awaits_two, pick_unasked, rest_dreamt, still_open, undreamt_dreamt}
use Rattle.course_check.specs.Places.{AwaitsPhase, IsBehindDream, IsDreamStep, LeadsOn, ModePlace, RunsNext, RunsOnce, asked_first, begins_level, dreamt, falls_back, goes_on, joining, keeping, picks, resets, resting, retires, sent_first, tells_dream, tells_none, undreamt}
use Rattle.turn_laws.specs.Modes.{TurnOf}
use Rattle.task_model.specs.declared.stream.Instance.{Instance}
use Rattle.task_model.specs.declared.task.Task.{Task}
use Rattle.transcript_model.proofs.LegalNumberLemmas.{asks_marked}
use Rattle.transcript_model.specs.Dreaming.{Sent, sent_instances}
use Rattle.transcript_model.specs.Legal.{asks_of}
use Rattle.transcript_model.specs.Rounds.{Limits, Share, calls_left}
use Rattle.transcript_model.specs.Transcript.{names_of}
use Rattle.transcript_model.specs.Turns.{AreBatches, IsPickTurn, Kept, Skeleton, is_cut}
use Rattle.transcript_model.specs.declared.entry.Entry.{Entry}
use Rattle.transcript_model.specs.declared.entry.Entry.TheVariants as entry
use Rattle.transcript_model.specs.declared.head.Mode.{Mode}
use Rattle.transcript_model.specs.declared.head.Mode.TheVariants.{Adaptive, Binding, Focused, Incremental}

module _ (limits : Limits) (task : Task) (workers : All (λ (s : Share). 1 ≤ s.workers) limits.pools) (n : ℕ)
    (shorter : Shorter limits task n) where
  -- the dream has one batch
  once_turned : (before es : List Entry) (e : Entry) (p m q : ModePlace) → limits.mode ≡ Focused → length es ≤ n
      → (s : IsDreamStep limits task before p e m)
      → RunsOnce limits task (length (names_of task before)) (before ++ entry.Dream s.uses s.steps ∷ []) s.entries p.kept m
      → LeadsOn limits task m (before ++ e ∷ []) es q → Turned limits task p.kept before (e ∷ es) q
  once_turned before es e p m q mode few s r leads =
      let line = entry.Dream s.uses s.steps in
      let real = length (names_of task before) in
      let marked = before ++ line ∷ [] in
      let firsts = sent_first task real marked s.entries in
      let list = asked_first limits task real marked s.entries in
      let cut = is_cut limits marked firsts in
      let turn : (now : List Entry) → AreRun limits task marked list now
      → TurnOf limits.mode limits task p.kept before (line ∷ now) (joining p.kept list) cut =
      λ now run. subst (λ (mode : Mode). TurnOf mode limits task p.kept before (line ∷ now) (joining p.kept list) cut)
      (sym mode) (
        inl (record {
          uses = s.uses;
          steps = s.steps;
          entries = s.entries;
          dream = s.dream;
          rest = now;
          is = refl;
          sent = take (calls_left limits marked) firsts;
          batches = record {
            list = firsts;
            ready = refl;
            batch = record { rounds = run.0; cut = run.1; run = run.2 };
            asked = refl;
            cut_is = refl;
          };
          joined = ap (λ (is : List Instance). p.kept.tried ++ is)
              (take-map (λ (t : Sent). t.instance) (calls_left limits marked) firsts);
        }),
        refl,
      ) in
      as_it_is limits task p.kept before es e line m (record { batch = r.batch; phase = resting; kept = joining p.kept list }) q
      s.is r.after_is leads
      (batch_turned limits task workers n shorter p.kept before (line ∷ []) s.may.may list cut r.batch (joining p.kept list)
      r.opens turn es q few)

  -- the dream has several batches
  again_turned : (before es : List Entry) (e : Entry) (p m q : ModePlace) → limits.mode ≡ Binding → length es ≤ n
      → (s : IsDreamStep limits task before p e m)
      → RunsNext limits task resting (length (names_of task before)) (before ++ entry.Dream s.uses s.steps ∷ []) s.entries [] p.kept m
      → LeadsOn limits task m (before ++ e ∷ []) es q → Turned limits task p.kept before (e ∷ es) q
  again_turned before es e p m q mode few s r leads =
      let line = entry.Dream s.uses s.steps in
      let real = length (names_of task before) in
      let marked = before ++ line ∷ [] in
      let begun : p.kept ≡ joining p.kept [] =
      λ i. record { tried = sym (append-nil p.kept.tried) i; skeletons = p.kept.skeletons } in
      let turn : (now : List Entry) (after : List Sent) (cut : Bool)
      → AreBatches limits task real s.entries [] marked now after cut
      → TurnOf limits.mode limits task p.kept before (line ∷ now) (joining p.kept (sent_instances after)) cut =
      λ now after cut run.
      subst (λ (mode : Mode). TurnOf mode limits task p.kept before (line ∷ now) (joining p.kept (sent_instances after)) cut)
      (sym mode) (
        inl (record {
          uses = s.uses;
          steps = s.steps;
          entries = s.entries;
          dream = s.dream;
          rest = now;
          is = refl;
          sent = after;
          batches = run;
          joined = refl;
        }),
        refl,
      ) in
      as_it_is limits task p.kept before es e line m m q s.is refl leads
      (run_turned limits task workers n shorter p.kept before (line ∷ []) s.may.may real s.entries p.kept m
      (subst (λ (k : Kept). RunsNext limits task resting real marked s.entries [] k m) begun r) turn es q few)

  -- ---- a dream that is kept

  module _ (before : List Entry) (e : Entry) (p m : ModePlace) (mode : limits.mode ≡ Adaptive)
      (s : IsDreamStep limits task before p e m) where
    abbrev line : Entry
    line = entry.Dream s.uses s.steps

    abbrev marked : List Entry
    marked = before ++ line ∷ []

    -- behind the line
    abbrev behind : ModePlace
    behind = record { batch = p.batch; phase = dreamt; kept = keeping p.kept s.entries (length (names_of task before)) }

    waits : AwaitsPhase behind dreamt
    waits = record { phase_is = refl; answered = s.may.awaits.answered; uncut = s.may.awaits.uncut }

    -- the last skeleton isn't given up
    one_kept : ¬ (AreGivenUp behind.kept.skeletons)
    one_kept = λ all.
        let new : Skeleton = record {
          entries = s.entries;
          real = length (names_of task before);
          picks = 0;
          retired = false;
        } in
        not_both false
        (all_at (λ (x : Skeleton). x.retired) (p.kept.skeletons ++ new ∷ []) (length p.kept.skeletons) new all
        (get_at_length p.kept.skeletons new)) refl

    new_turn : (now : List Entry) (next : Kept) (cut : Bool) → IsPickTurn limits task behind.kept marked now next cut
        → TurnOf limits.mode limits task p.kept before (line ∷ now) next cut
    new_turn now next cut pick =
        subst (λ (x : Mode). TurnOf x limits task p.kept before (line ∷ now) next cut) (sym mode)
        (inl (record {
          uses = s.uses;
          steps = s.steps;
          entries = s.entries;
          dream = s.dream;
          rest = now;
          is = refl;
          pick = pick;
        }))

    left : asks_of marked < limits.calls
    left = let less = s.may.may.left in omega (arith, less, asks_marked before line refl)

    dreamt_then : (es : List Entry) (q : ModePlace) → length es ≤ n → LeadsOn limits task behind marked es q
        → Turned limits task p.kept before (line ∷ es) q
    dreamt_then [] q few leads =
        pick_stops limits task workers n shorter p.kept before (line ∷ []) s.may.may behind new_turn q (inl waits) one_kept leads
    dreamt_then (x ∷ xs) q few (r, goes_on b t is, more) = still_open limits task marked behind x b dreamt t waits
    dreamt_then (x ∷ xs) q few (r, begins_level t, more) = awaits_two behind resting dreamt rest_dreamt t.awaits waits
    dreamt_then (x ∷ xs) q few (r, tells_dream t, more) = awaits_two behind resting dreamt rest_dreamt t.may.awaits waits
    dreamt_then (x ∷ xs) q few (r, tells_none t, more) = awaits_two behind resting dreamt rest_dreamt t.may.awaits waits
    dreamt_then (x ∷ xs) q few (r, resets t, more) = awaits_two behind undreamt dreamt undreamt_dreamt t.awaits waits
    dreamt_then (x ∷ xs) q few (r, falls_back t, more) = awaits_two behind undreamt dreamt undreamt_dreamt t.awaits waits
    dreamt_then (x ∷ xs) q few (r, picks t, more) =
        picks_turned limits task workers n shorter p.kept before (line ∷ []) s.may.may behind new_turn x r t left xs q
        (omega (arith, few)) more
    dreamt_then (x ∷ xs) q few (r, retires t, more) = pick_unasked behind t.place (inl waits) t.awaits

  -- ---- any dream

  pub dream_turned : (before es : List Entry) (e : Entry) (p m q : ModePlace) → length es ≤ n
      → IsDreamStep limits task before p e m → LeadsOn limits task m (before ++ e ∷ []) es q
      → Turned limits task p.kept before (e ∷ es) q
  dream_turned before es e p m q few s leads = by limits.mode refl s.behind
    where
      by : (mode : Mode) → limits.mode ≡ mode
          → IsBehindDream mode limits task (length (names_of task before)) (before ++ entry.Dream s.uses s.steps ∷ []) s.entries p m
          → Turned limits task p.kept before (e ∷ es) q
      by Incremental is behind_is = absurd behind_is
      by Focused is behind_is = once_turned before es e p m q is few s behind_is leads
      by Binding is behind_is = again_turned before es e p m q is few s behind_is leads
      by Adaptive is behind_is =
          as_it_is limits task p.kept before es e (line before e p m is s) m (behind before e p m is s) q s.is
          behind_is leads (dreamt_then before e p m is s es q few)
