-- Where entries lead, and what may come behind them.
use Rattle.std.proofs.Common.{◌≡◌, ℕ, zero, suc, ◌+◌, inl, inr, Bool, true, false, List, [], ◌∷◌, ◌++◌, length, refl, sym, ap, subst, ◌∙◌, Some, slice_get, arith}
use Rattle.std.proofs.lemmas.Bool.{true≢false}
use Rattle.course_check.proofs.CoursesLemmas.{nothing_left}
use Rattle.course_check.specs.Courses.{Course, IsBehind, Opens}
use Rattle.course_check.proofs.StepsLemmas.{at_first_rest, leads_on_once, leads_on_then}
use Rattle.course_check.proofs.TurnedLemmas.{turned}
use Rattle.course_check.proofs.TurnsLemmas.{turns_lead}
use Rattle.course_check.proofs.WholeLemmas.{between_alone, step_of}
use Rattle.course_check.specs.Laws.{IsPlaceAt}
use Rattle.course_check.specs.Places.{AwaitsPhase, IsBatchStep, IsBehindDream, IsModeStep, LeadsOn, MayDream, Phase, ModePlace, RunsNext, Settles, at_start, begins_level, falls_back, goes_on, moves, picks, resets, resting, retires, stays, tells_dream, tells_none, with_batch}
use Rattle.turn_laws.proofs.ModesLemmas.{as_family, of_mode}
use Rattle.turn_laws.specs.Modes.{nothing_kept}
use Rattle.pools.specs.Pools.{HaveWorkers}
use Rattle.task_model.specs.Dreams as dreams
use Rattle.task_model.specs.Streams.{yields_of}
use Rattle.task_model.specs.declared.stream.Instance.{Instance}
use Rattle.task_model.specs.declared.task.Task.{Task}
use Rattle.transcript_model.specs.Dreaming.{Sent}
use Rattle.transcript_model.specs.Legal.{asks_of, is_answer_to, is_mark}
use Rattle.transcript_model.specs.Names.{call_of_instance}
use Rattle.transcript_model.specs.Rounds.{Limits, requests_from}
use Rattle.transcript_model.specs.Transcript.{names_of, notes_of}
use Rattle.transcript_model.specs.Turns.{AreTurnsOf, Kept, Stage, between, inside}
use Rattle.transcript_model.specs.declared.entry.Entry.{Entry}
use Rattle.transcript_model.specs.declared.entry.Entry.TheVariants as entry
use Rattle.transcript_model.specs.declared.head.Mode.{Mode}
use Rattle.transcript_model.specs.declared.head.Mode.TheVariants.{Adaptive, Binding, Focused, Incremental}
use Rattle.replay_check.specs.Breaches.{AreBegun, BeginsTurn}

-- ---- requests of a round

-- where this request is the first to come, it is that of the first instance
pub first_request : (task : Task) (es : List Entry) (number : ℕ) (is : List Instance) (e : Entry) (rest : List Entry)
    → requests_from task es number is ≡ e ∷ rest
    → (i : Instance) × (slice_get is 0 ≡ Some i)
    × (e ≡ entry.Ask number (yields_of (notes_of task es) i) (call_of_instance task (names_of task es) i))
first_request task es number [] e rest asks = absurd (nothing_left e rest asks)
first_request task es number (i ∷ is) e rest asks =
    (i, refl, let same : e ≡ entry.Ask number (yields_of (notes_of task es) i) (call_of_instance task (names_of task es) i) = cc in same)

-- these are requests for instances
abbrev pub AreRequests : Task → List Entry → Type 0
AreRequests task asks =
    (before : List Entry) × (number : ℕ) × (round : List Instance) × (asks ≡ requests_from task before number round)

rest_requested : (task : Task) (before : List Entry) (number : ℕ) (round : List Instance) (e : Entry) (rest : List Entry)
    → requests_from task before number round ≡ e ∷ rest → AreRequests task rest
rest_requested task before number [] e rest asks = absurd (nothing_left e rest asks)
rest_requested task before number (i ∷ is) e rest asks =
    let more : requests_from task before (number + 1) is ≡ rest = cc in (before, number + 1, is, sym more)

answers_no_mark : (n : ℕ) (e : Entry) → is_answer_to n e ≡ true → is_mark e ≡ false
answers_no_mark n (entry.Got m tuples values) to = refl
answers_no_mark n (entry.Value m value) to = refl
answers_no_mark n (entry.End m) to = refl
answers_no_mark n (entry.Ask m turn call) to = absurd (cc)
answers_no_mark n entry.Level to = absurd (cc)
answers_no_mark n (entry.Dream uses steps) to = absurd (cc)
answers_no_mark n entry.Nothing to = absurd (cc)
answers_no_mark n entry.Reset to = absurd (cc)
answers_no_mark n (entry.Pick m) to = absurd (cc)
answers_no_mark n (entry.Retire m) to = absurd (cc)

module _ (limits : Limits) (task : Task) where
  opened_requests : (before : List Entry) (list : List Instance) (cut : Bool) (c : Course)
      → Opens limits task before list cut c → AreRequests task c.asks
  opened_requests before list cut c o = (before, asks_of before + 1, o.round, ap (λ (d : Course). d.asks) o.is)

  batch_requests : (before : List Entry) (c : Course) (e : Entry) (d : Course) → IsBatchStep limits task before c e d
      → AreRequests task c.asks → AreRequests task d.asks
  batch_requests before c e d (inl m) (xs, number, round, are) =
      subst (AreRequests task) (sym (ap (λ (x : Course). x.asks) m.is))
      (rest_requested task xs number round e m.rest (sym are ∙ m.asks))
  batch_requests before c e d (inr g) are = by g.left g.behind
    where
      by : (left : ℕ) → IsBehind limits task (before ++ e ∷ []) c left d → AreRequests task d.asks
      by zero opens = opened_requests (before ++ e ∷ []) c.later c.is_cut d opens
      by (suc left) is = (before, 0, [], ap (λ (x : Course). x.asks) is)

  run_requests : (over : Phase) (real : ℕ) (before : List Entry) (entries : List dreams.SupposedEntry) (sent : List Sent) (kept : Kept)
      (q : ModePlace) → RunsNext limits task over real before entries sent kept q → AreRequests task q.batch.asks
  run_requests over real before entries sent kept q r =
      subst (λ (x : ModePlace). AreRequests task x.batch.asks) (sym r.after_is) (opened_requests _ _ _ r.batch r.opens)

  settle_requests : (before : List Entry) (p q : ModePlace) → Settles limits task before p q → AreRequests task p.batch.asks
      → AreRequests task q.batch.asks
  settle_requests before p q (stays settled is) are = subst (λ (x : ModePlace). AreRequests task x.batch.asks) (sym is) are
  settle_requests before p q (moves real entries sent awaits r) are = run_requests resting real before entries sent p.kept q r

  dream_requests : (m : Mode) (real : ℕ) (before : List Entry) (entries : List dreams.SupposedEntry) (p q : ModePlace)
      → IsBehindDream m limits task real before entries p q → AreRequests task p.batch.asks → AreRequests task q.batch.asks
  dream_requests Incremental real before entries p q behind are = absurd behind
  dream_requests Focused real before entries p q behind are =
      subst (λ (x : ModePlace). AreRequests task x.batch.asks) (sym behind.after_is) (opened_requests _ _ _ behind.batch behind.opens)
  dream_requests Binding real before entries p q behind are = run_requests resting real before entries [] p.kept q behind
  dream_requests Adaptive real before entries p q behind are =
      subst (λ (x : ModePlace). AreRequests task x.batch.asks) (sym behind) are

  step_requests : (before : List Entry) (p : ModePlace) (e : Entry) (q : ModePlace) → IsModeStep limits task before p e q
      → AreRequests task p.batch.asks → AreRequests task q.batch.asks
  step_requests before p e q (goes_on c s settles) are =
      settle_requests (before ++ e ∷ []) (with_batch p c) q settles (batch_requests before p.batch e c s are)
  step_requests before p e q (begins_level s) are =
      subst (λ (x : ModePlace). AreRequests task x.batch.asks) (sym s.after_is) (opened_requests _ _ _ s.batch s.begins.opens)
  step_requests before p e q (tells_dream s) are = dream_requests limits.mode _ _ s.entries p q s.behind are
  step_requests before p e q (tells_none s) are = subst (λ (x : ModePlace). AreRequests task x.batch.asks) (sym s.after_is) are
  step_requests before p e q (resets s) are = subst (λ (x : ModePlace). AreRequests task x.batch.asks) (sym s.after_is) are
  step_requests before p e q (falls_back s) are =
      subst (λ (x : ModePlace). AreRequests task x.batch.asks) (sym s.after_is) (opened_requests _ _ _ s.batch s.opens)
  step_requests before p e q (picks s) are = run_requests _ _ _ _ _ _ q s.runs
  step_requests before p e q (retires s) are = subst (λ (x : ModePlace). AreRequests task x.batch.asks) (sym s.after_is) are

  leads_requests : (p : ModePlace) (before es : List Entry) (q : ModePlace) → LeadsOn limits task p before es q
      → AreRequests task p.batch.asks → AreRequests task q.batch.asks
  leads_requests p before [] q same are = subst (λ (x : ModePlace). AreRequests task x.batch.asks) same are
  leads_requests p before (e ∷ es) q (m, step, more) are =
      leads_requests m (before ++ e ∷ []) es q more (step_requests before p e m step are)

  -- what goes on with a batch is a request or an answer
  pub batch_no_mark : (entries : List Entry) (p : ModePlace) (e : Entry) (d : Course) → LeadsOn limits task at_start [] entries p
      → IsBatchStep limits task entries p.batch e d → is_mark e ≡ false
  batch_no_mark entries p e d leads (inl m) =
      let are = leads_requests at_start [] entries p leads ([], 0, [], refl) in
      let first = first_request task are.0 are.1 are.2 e m.rest (sym are.3 ∙ m.asks) in
      ap is_mark first.2
  batch_no_mark entries p e d leads (inr g) = answers_no_mark p.batch.next e g.to

  -- a request, or an answer, goes on with a batch
  pub batch_of : (before : List Entry) (p : ModePlace) (e : Entry) (q : ModePlace) → is_mark e ≡ false → IsModeStep limits task before p e q
      → (d : Course) × IsBatchStep limits task before p.batch e d
  batch_of before p e q other (goes_on d s is) = (d, s)
  batch_of before p e q other (begins_level s) = absurd (true≢false (sym (ap is_mark s.begins.is) ∙ other))
  batch_of before p e q other (tells_dream s) = absurd (true≢false (sym (ap is_mark s.is) ∙ other))
  batch_of before p e q other (tells_none s) = absurd (true≢false (sym (ap is_mark s.is) ∙ other))
  batch_of before p e q other (resets s) = absurd (true≢false (sym (ap is_mark s.is) ∙ other))
  batch_of before p e q other (falls_back s) = absurd (true≢false (sym (ap is_mark s.is) ∙ other))
  batch_of before p e q other (picks s) = absurd (true≢false (sym (ap is_mark s.is) ∙ other))
  batch_of before p e q other (retires s) = absurd (true≢false (sym (ap is_mark s.is) ∙ other))

-- ---- turns

pub between_inside : ¬ (between ≡ inside)
between_inside e = absurd (cc)

module _ (limits : Limits) (task : Task) (entries : List Entry) (p : ModePlace) (leads : LeadsOn limits task at_start [] entries p) where
  -- an entry with which a turn goes on is a step from here
  pub next_step : (e : Entry) → AreBegun limits task (entries ++ e ∷ [])
      → (after : ModePlace) × IsModeStep limits task entries p e after
  next_step e begun = step_of limits task entries p leads e begun.0 begun.1

  -- turns lead to where they stop, unless that is inside one
  pub stage_at : (stage : Stage) → ¬ (stage ≡ inside) → AreTurnsOf limits.mode limits task entries stage → IsPlaceAt p stage
  stage_at stage other turns =
      let to = turns_lead limits task nothing_kept [] entries stage at_start
      (as_family limits.mode limits task entries stage turns) refl at_first_rest in
      let same : to.last ≡ p = leads_on_once limits task at_start [] entries to.last p to.leads leads in
      subst (λ (x : ModePlace). IsPlaceAt x stage) same (to.at other)

  -- where a turn of a mode that dreams begins
  pub may_here : BeginsTurn limits task entries → MayDream limits task entries p
  may_here (other, may, turns) =
      record { mode = other; awaits = stage_at between between_inside turns; may = may }

  module _ (workers : HaveWorkers limits.pools) where
    -- the entries are turns that stop there
    pub record Stops : Type 0 where
      pub stage : Stage
      pub at : IsPlaceAt p stage
      pub turns : AreTurnsOf limits.mode limits task entries stage

    pub stops : Stops
    stops =
        let t = turned limits task workers (length entries) [] entries at_start p (omega arith) at_first_rest leads in
        record { stage = t.stage; at = t.at; turns = of_mode limits.mode limits task entries t.stage t.turns }

    pub rests_between : AwaitsPhase p resting → AreTurnsOf limits.mode limits task entries between
    rests_between awaits =
        let s = stops in
        subst (λ (x : Stage). AreTurnsOf limits.mode limits task entries x) (between_alone p s.stage awaits s.at) s.turns

    pub begins_here : MayDream limits task entries p → BeginsTurn limits task entries
    begins_here may = (may.mode, may.may, rests_between may.awaits)

-- a step goes on with a turn
pub step_begun : (limits : Limits) (task : Task) (entries : List Entry) (p : ModePlace) → LeadsOn limits task at_start [] entries p
    → HaveWorkers limits.pools → (e : Entry) (after : ModePlace) → IsModeStep limits task entries p e after
    → AreBegun limits task (entries ++ e ∷ [])
step_begun limits task entries p leads workers e after step =
    let s = stops limits task (entries ++ e ∷ []) after
    (leads_on_then limits task at_start [] entries (e ∷ []) p after leads (after, step, refl)) workers in
    (s.stage, s.turns)
