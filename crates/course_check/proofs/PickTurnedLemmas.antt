-- Picks of skeletons: where one is to be picked, one can be; and the entries that lead on from there are turns.
use Rattle.std.proofs.Common.{◌≡◌, ◌⊎◌, ℕ, ◌+◌, ◌<◌, ◌≤◌, inl, inr, All, Bool, true, false, List, [], ◌∷◌, ◌++◌, length, slice_set, Option, Some, None, refl, sym, ap, subst, ◌∙◌, arith, append_assoc}
use Rattle.std.proofs.lemmas.Bool.{cases_lt}
use Rattle.std.proofs.lemmas.List.{append-nil}
use Rattle.std.specs.List.{list_all}
use Rattle.course_check.proofs.PartTurnedLemmas.{Shorter, Turned, run_turned}
use Rattle.course_check.proofs.PicksLemmas.{given_alike, no_line, runs_any}
use Rattle.course_check.proofs.RunsLemmas.{at_rest, opens_none}
use Rattle.course_check.proofs.StepsLemmas.{awaits_two, pick_unasked, rest_unasked, still_open, undreamt_unasked}
use Rattle.course_check.specs.Places.{AwaitsPhase, AwaitsLine, AwaitsPick, IsPickStep, IsRetireStep, LeadsOn, ModePlace, RunsNext, asked_first, awaits_line, begins_level, falls_back, goes_on, joining, phase_behind, picking, picks, resets, resting, retires, sent_first, tells_dream, tells_none, unasked, undreamt}
use Rattle.turn_laws.proofs.ModeBatchesLemmas.{batches_ask, batches_end}
use Rattle.turn_laws.specs.Modes.{TurnOf}
use Rattle.skeletons.proofs.SkeletonLemmas.{best_better, best_first, best_kept, best_nothing, best_passed}
use Rattle.skeletons.specs.Skeletons.{IsNextPick}
use Rattle.task_model.specs.declared.task.Task.{Task}
use Rattle.transcript_model.proofs.LegalNumberLemmas.{asks_marked}
use Rattle.transcript_model.specs.Dreaming.{Sent, sent_instances}
use Rattle.transcript_model.specs.Legal.{asks_of}
use Rattle.transcript_model.specs.Rounds.{Limits, Share}
use Rattle.transcript_model.specs.Turns.{AreBatches, AreTurns, IsPickTurn, Kept, MayBegin, Skeleton, finished, inside, is_cut, retiring, stopped, whole, with_pick}
use Rattle.transcript_model.specs.declared.entry.Entry.{Entry}
use Rattle.transcript_model.specs.declared.entry.Entry.TheVariants as entry

-- ---- a skeleton to be picked

-- with a further skeleton one is the best, or all are given up
next_best : (xs : List Skeleton) (x : Skeleton) (best : Option ℕ) → IsNextPick xs best → (b : Option ℕ) × IsNextPick (xs ++ x ∷ []) b
next_best xs x best b = by x.retired refl
  where
    weigh : (was : Option ℕ) → x.retired ≡ false → IsNextPick xs was → (c : Option ℕ) × IsNextPick (xs ++ x ∷ []) c
    weigh None kept is = (Some (length xs), best_first xs x kept is)
    weigh (Some place) kept is = choose (cases_lt x.picks is.some.0.picks)
      where
        choose : (x.picks < is.some.0.picks) ⊎ (is.some.0.picks ≤ x.picks) → (c : Option ℕ) × IsNextPick (xs ++ x ∷ []) c
        choose (inl less) = (Some (length xs), best_better xs x kept place is.some.0 is.some.1.there less is)
        choose (inr low) = (Some place, best_kept xs x place is.some.0 is.some.1.there low is)

    by : (retired : Bool) → x.retired ≡ retired → (c : Option ℕ) × IsNextPick (xs ++ x ∷ []) c
    by true retired = (best, best_passed xs x best retired b)
    by false kept = weigh best kept b

best_of : (xs ys : List Skeleton) (best : Option ℕ) → IsNextPick xs best → (b : Option ℕ) × IsNextPick (xs ++ ys) b
best_of xs [] best is = (best, subst (λ (l : List Skeleton). IsNextPick l best) (sym (append-nil xs)) is)
best_of xs (y ∷ ys) best is =
    let one = next_best xs y best is in
    let all = best_of (xs ++ y ∷ []) ys one.0 one.1 in
    (all.0, subst (λ (l : List Skeleton). IsNextPick l all.0) (append_assoc xs (y ∷ []) ys) all.1)

-- all skeletons are given up
abbrev pub AreGivenUp : List Skeleton → Type 0
AreGivenUp skeletons = list_all (λ (s : Skeleton). s.retired) skeletons ≡ true

-- a skeleton can be picked, and its batches run
pub record CanPick (limits : Limits) (task : Task) (k : Kept) (before : List Entry) : Type 0 where
  pub now : List Entry
  pub next : Kept
  pub cut : Bool
  pub turn : IsPickTurn limits task k before now next cut

pub pick_exists : (limits : Limits) (task : Task) (k : Kept) (before : List Entry)
    → All (λ (s : Share). 1 ≤ s.workers) limits.pools → ¬ (AreGivenUp k.skeletons) → CanPick limits task k before
pick_exists limits task k before workers some = let best = best_of [] k.skeletons None (best_nothing [] refl) in by best.0 best.1
  where
    by : (best : Option ℕ) → IsNextPick k.skeletons best → CanPick limits task k before
    by None is = absurd (some is.none)
    by (Some place) is =
        let s = is.some.0 in
        let e = batches_end limits task s.real s.entries workers [] (before ++ entry.Pick (place + 1) ∷ []) in
        record {
          now = entry.Pick (place + 1) ∷ e.now ++ retiring (place + 1) e.after;
          next = record {
            tried = k.tried ++ sent_instances e.after;
            skeletons = with_pick k.skeletons place s e.after;
          };
          cut = e.cut;
          turn = record {
            place = place;
            skeleton = s;
            picked = is.some.1;
            batches = e.now;
            sent = e.after;
            run = e.batches;
            is = refl;
            next_is = refl;
          };
        }

-- ---- turns whose last part is a pick

-- where a skeleton is to be picked, a line comes
line_comes : (p : ModePlace) → AwaitsPick p → AwaitsLine p
line_comes p (inl a) = record { line = ap awaits_line a.phase_is; answered = a.answered; uncut = a.uncut }
line_comes p (inr a) = record { line = ap awaits_line a.phase_is; answered = a.answered; uncut = a.uncut }

module _ (limits : Limits) (task : Task) (workers : All (λ (s : Share). 1 ≤ s.workers) limits.pools) (n : ℕ)
    (shorter : Shorter limits task n) where
  module _ (k : Kept) (before head : List Entry) (may : MayBegin limits task before) (p : ModePlace)
      (turn : (now : List Entry) (next : Kept) (cut : Bool) → IsPickTurn limits task p.kept (before ++ head) now next cut
      → TurnOf limits.mode limits task k before (head ++ now) next cut) where
    -- the entries stop before the line
    pub pick_stops : (q : ModePlace) → AwaitsPick p → ¬ (AreGivenUp p.kept.skeletons) → p ≡ q
        → Turned limits task k before head q
    pick_stops q awaits some is =
        let c = pick_exists limits task p.kept (before ++ head) workers some in
        record {
          stage = inside;
          at = inr (subst AwaitsLine is (line_comes p awaits));
          turns = stopped c.next c.now c.cut may (turn c.now c.next c.cut c.turn);
        }

    module _ (x : Entry) (r : ModePlace) (t : IsPickStep limits task (before ++ head) p x r) where
      abbrev line : Entry
      line = entry.Pick (t.place + 1)

      abbrev marked : List Entry
      marked = (before ++ head) ++ line ∷ []

      abbrev firsts : List Sent
      firsts = sent_first task t.skeleton.real marked t.skeleton.entries

      abbrev picked : Kept
      picked = picking p.kept t.place t.skeleton firsts

      -- what is kept where these were asked
      abbrev kept_with : List Sent → Kept
      kept_with after = record {
        tried = p.kept.tried ++ sent_instances after;
        skeletons = with_pick p.kept.skeletons t.place t.skeleton after;
      }

      -- the turn with its batches
      pick_turn : (now : List Entry) (after : List Sent) (cut : Bool)
          → AreBatches limits task t.skeleton.real t.skeleton.entries [] marked now after cut
          → TurnOf limits.mode limits task k before (head ++ (line ∷ now ++ retiring (t.place + 1) after)) (kept_with after) cut
      pick_turn now after cut run =
          turn (line ∷ now ++ retiring (t.place + 1) after) (kept_with after) cut
          (record {
            place = t.place;
            skeleton = t.skeleton;
            picked = t.picked;
            batches = now;
            sent = after;
            run = run;
            is = refl;
            next_is = refl;
          })

      -- ---- where something is asked of it

      asked_turn : asks_of (before ++ head) < limits.calls → 0 < length firsts
          → (now : List Entry) (after : List Sent) (cut : Bool)
          → AreBatches limits task t.skeleton.real t.skeleton.entries [] marked now after cut
          → TurnOf limits.mode limits task k before ((head ++ line ∷ []) ++ now) (joining picked (sent_instances after)) cut
      asked_turn left some now after cut run =
          let still_left : asks_of marked < limits.calls = omega (arith, left, asks_marked (before ++ head) line refl) in
          let asked : 0 < length after =
          batches_ask limits task t.skeleton.real t.skeleton.entries [] marked now after cut run still_left some in
          let entries : (head ++ (line ∷ now ++ retiring (t.place + 1) after)) ≡ (head ++ line ∷ []) ++ now =
          ap (λ xs. head ++ (line ∷ now ++ xs)) (no_line (t.place + 1) after asked)
          ∙ ap (λ xs. head ++ line ∷ xs) (append-nil now) ∙ sym (append_assoc head (line ∷ []) now) in
          let kept : kept_with after ≡ joining picked (sent_instances after) =
          λ i. record {
            tried = p.kept.tried ++ sent_instances after;
            skeletons = slice_set p.kept.skeletons t.place (record {
              entries = t.skeleton.entries;
              real = t.skeleton.real;
              picks = t.skeleton.picks + 1;
              retired = given_alike after firsts asked some i;
            });
          } in
          subst (λ xs. TurnOf limits.mode limits task k before xs (joining picked (sent_instances after)) cut) entries
          (subst (λ (next : Kept). TurnOf limits.mode limits task k before
          (head ++ (line ∷ now ++ retiring (t.place + 1) after)) next cut) kept (pick_turn now after cut run))

      asks_turned : asks_of (before ++ head) < limits.calls → 0 < length firsts → (es : List Entry) (q : ModePlace)
          → length es ≤ n → LeadsOn limits task r marked es q → Turned limits task k before (head ++ line ∷ es) q
      asks_turned left some es q few leads =
          let real = t.skeleton.real in
          let entries = t.skeleton.entries in
          let joined : marked ≡ before ++ (head ++ line ∷ []) = append_assoc before head (line ∷ []) in
          let begun : picked ≡ joining picked [] =
          λ i. record { tried = sym (append-nil p.kept.tried) i; skeletons = picked.skeletons } in
          let runs : RunsNext limits task resting real (before ++ (head ++ line ∷ [])) entries [] (joining picked []) r =
          subst (λ xs. RunsNext limits task resting real xs entries [] (joining picked []) r) joined
          (subst (λ (kept : Kept). RunsNext limits task resting real marked entries [] kept r) begun
          (runs_any limits task (unasked t.place) resting real marked entries [] picked r some t.runs)) in
          subst (λ xs. Turned limits task k before xs q) (append_assoc head (line ∷ []) es)
          (run_turned limits task workers n shorter k before (head ++ line ∷ []) may real entries picked r runs
          (λ now after cut run. asked_turn left some now after cut
          (subst (λ xs. AreBatches limits task real entries [] xs now after cut) (sym joined) run)) es q few
          (subst (λ xs. LeadsOn limits task r xs es q) joined leads))

      -- ---- where nothing may be asked of it

      module _ (none : firsts ≡ []) where
        abbrev end : Entry
        end = entry.Retire (t.place + 1)

        given_turn : TurnOf limits.mode limits task k before (head ++ line ∷ end ∷ []) (kept_with []) false
        given_turn = pick_turn [] [] false (finished none)

        stands : (asked_first limits task t.skeleton.real marked t.skeleton.entries ≡ []) × (t.runs.batch.answers ≡ 0)
            × (t.runs.batch.is_cut ≡ false)
        stands = opens_none limits task t.skeleton.real marked t.skeleton.entries [] t.runs.batch t.runs.opens none

        -- behind the line
        abbrev behind : ModePlace
        behind = record { batch = t.runs.batch; phase = unasked t.place; kept = kept_with [] }

        behind_is : r ≡ behind
        behind_is =
            let cut = is_cut limits marked firsts in
            let phase : phase_behind (unasked t.place) cut t.skeleton.real t.skeleton.entries [] firsts ≡ unasked t.place =
            ap (λ (l : List Sent). phase_behind (unasked t.place) cut t.skeleton.real t.skeleton.entries [] l) none in
            t.runs.after_is
            ∙ (λ i. record {
              batch = t.runs.batch;
              phase = phase i;
              kept = record {
                tried = p.kept.tried ++ stands.0 i;
                skeletons = with_pick p.kept.skeletons t.place t.skeleton (none i);
              };
            })

        waits : AwaitsPhase behind (unasked t.place)
        waits = record { phase_is = refl; answered = stands.1; uncut = stands.2 }

        retired_turned : (es : List Entry) (y : Entry) (m q : ModePlace) → length es ≤ n → IsRetireStep behind y m
            → LeadsOn limits task m (marked ++ y ∷ []) es q → Turned limits task k before (head ++ line ∷ y ∷ es) q
        retired_turned es y m q few u leads =
            let same : unasked u.place ≡ unasked t.place = sym u.awaits.phase_is in
            let places : u.place ≡ t.place = cc in
            let is : y ≡ end = u.is ∙ ap (λ (j : ℕ). entry.Retire (j + 1)) places in
            let after = at_rest t.runs.batch (kept_with []) in
            let joined : (marked ++ end ∷ []) ≡ before ++ (head ++ line ∷ end ∷ []) =
            append_assoc (before ++ head) (line ∷ []) (end ∷ []) ∙ append_assoc before head (line ∷ end ∷ []) in
            let later : LeadsOn limits task after (before ++ (head ++ line ∷ end ∷ [])) es q =
            subst (λ xs. LeadsOn limits task after xs es q) joined
            (subst (λ (z : Entry). LeadsOn limits task after (marked ++ z ∷ []) es q) is
            (subst (λ (z : ModePlace). LeadsOn limits task z (marked ++ y ∷ []) es q) u.after_is leads)) in
            let rest = shorter (before ++ (head ++ line ∷ end ∷ [])) es after q few
            (record { phase_is = refl; answered = stands.1; uncut = stands.2 }) later in
            subst (λ (z : Entry). Turned limits task k before (head ++ line ∷ z ∷ es) q) (sym is)
            (record {
              stage = rest.stage;
              at = rest.at;
              turns = subst (λ xs. AreTurns limits task (TurnOf limits.mode limits task) k before xs rest.stage)
                  (append_assoc head (line ∷ end ∷ []) es) (whole (kept_with []) may given_turn rest.turns);
            })

        given_turned : (es : List Entry) (q : ModePlace) → length es ≤ n → LeadsOn limits task behind marked es q
            → Turned limits task k before (head ++ line ∷ es) q
        given_turned [] q few leads = record {
          stage = inside;
          at = inr (subst AwaitsLine leads (record { line = refl; answered = stands.1; uncut = stands.2 }));
          turns = stopped (kept_with []) (end ∷ []) false may
              (subst (λ xs. TurnOf limits.mode limits task k before xs (kept_with []) false)
              (sym (append_assoc head (line ∷ []) (end ∷ []))) given_turn);
        }
        given_turned (y ∷ es) q few (m, goes_on b s is, more) =
            still_open limits task marked behind y b (unasked t.place) s waits
        given_turned (y ∷ es) q few (m, begins_level s, more) =
            awaits_two behind resting (unasked t.place) (rest_unasked t.place) s.awaits waits
        given_turned (y ∷ es) q few (m, tells_dream s, more) =
            awaits_two behind resting (unasked t.place) (rest_unasked t.place) s.may.awaits waits
        given_turned (y ∷ es) q few (m, tells_none s, more) =
            awaits_two behind resting (unasked t.place) (rest_unasked t.place) s.may.awaits waits
        given_turned (y ∷ es) q few (m, resets s, more) =
            awaits_two behind undreamt (unasked t.place) (undreamt_unasked t.place) s.awaits waits
        given_turned (y ∷ es) q few (m, falls_back s, more) =
            awaits_two behind undreamt (unasked t.place) (undreamt_unasked t.place) s.awaits waits
        given_turned (y ∷ es) q few (m, picks s, more) = pick_unasked behind t.place s.awaits waits
        given_turned (y ∷ es) q few (m, retires s, more) = retired_turned es y m q (omega (arith, few)) s more

      -- ---- the line

      pub picks_turned : asks_of (before ++ head) < limits.calls → (es : List Entry) (q : ModePlace) → length es ≤ n
          → LeadsOn limits task r ((before ++ head) ++ x ∷ []) es q → Turned limits task k before (head ++ x ∷ es) q
      picks_turned left es q few leads =
          subst (λ (y : Entry). Turned limits task k before (head ++ y ∷ es) q) (sym t.is)
          (by firsts refl (subst (λ (y : Entry). LeadsOn limits task r ((before ++ head) ++ y ∷ []) es q) t.is leads))
        where
          by : (l : List Sent) → firsts ≡ l → LeadsOn limits task r marked es q → Turned limits task k before (head ++ line ∷ es) q
          by [] none on = given_turned none es q few (subst (λ (z : ModePlace). LeadsOn limits task z marked es q) (behind_is none) on)
          by (s ∷ l) some on =
              asks_turned left (subst (λ (xs : List Sent). 0 < length xs) (sym some) (omega arith)) es q few on
