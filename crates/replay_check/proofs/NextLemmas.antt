-- What comes next where the judge stands.
use Rattle.std.proofs.Common.{◌≡◌, ℕ, ◌+◌, ◌<◌, ◌==◌, ◌&&◌, ◌⊎◌, not, inl, inr, Bool, true, false, List, [], ◌∷◌, ◌++◌, length, refl, sym, ap, ◌∙◌, Some, None, arith, eqb-true, eq-eqb}
use Rattle.std.proofs.lemmas.Bool.{true≢false}
use Rattle.course_check.specs.Courses.{Course}
use Rattle.course_check.specs.Agendas.{ModeAgenda, is_dreamt, is_resting, is_undreamt, mode_place_in}
use Rattle.course_check.specs.BatchAgendas.{is_over}
use Rattle.course_check.specs.Places.{AwaitsPhase, AwaitsLine, AwaitsPick, IsBatchStep, IsModeStep, ModePlace, awaits_line, begins_level, dreamt, falls_back, goes_on, picks, resets, resting, retires, tells_dream, tells_none, unasked, undreamt}
use Rattle.task_model.specs.Streams.{yields_of}
use Rattle.task_model.specs.declared.stream.Instance.{Instance}
use Rattle.task_model.specs.declared.task.Task.{Task}
use Rattle.learning.specs.declared.knowledge.Knowledge.{Knowledge}
use Rattle.transcript_model.specs.Legal.{answered_number, asks_of, is_answer_to, is_mark}
use Rattle.transcript_model.specs.Names.{call_of_instance}
use Rattle.transcript_model.specs.Rounds.{Limits, requests_from}
use Rattle.transcript_model.specs.Turns.{IsPicked, MayBegin, Skeleton}
use Rattle.transcript_model.specs.declared.entry.Call.{Call}
use Rattle.transcript_model.specs.declared.entry.Entry.{Entry}
use Rattle.transcript_model.specs.declared.entry.Entry.TheVariants as entry
use Rattle.replay_check.proofs.PlacesLemmas.{batch_no_mark, batch_of, first_request, next_step}
use Rattle.replay_check.specs.Breaches.{AreBegun}
use Rattle.replay_check.specs.Standings.{IsNextRequest, StandsBehind}
use Rattle.replay_check.specs.Turns.{AsksLevel, HasNothing, PicksNext}

-- ---- requests and answers

-- where no request is to come, no instance is to be asked
none_to_ask : (task : Task) (es : List Entry) (number : ℕ) (is : List Instance)
    → requests_from task es number is ≡ [] → is ≡ []
none_to_ask task es number [] e = refl
none_to_ask task es number (i ∷ is) e = absurd (cc)

-- an answer to a request has its number
pub answer_number : (e : Entry) (n : ℕ) → is_answer_to n e ≡ true → answered_number e ≡ Some n
answer_number (entry.Got m tuples values) n to = ap Some (sym (eqb-true n m to))
answer_number (entry.Value m value) n to = ap Some (sym (eqb-true n m to))
answer_number (entry.End m) n to = ap Some (sym (eqb-true n m to))
answer_number (entry.Ask m turn call) n to = absurd (cc)
answer_number entry.Level n to = absurd (cc)
answer_number (entry.Dream uses steps) n to = absurd (cc)
answer_number entry.Nothing n to = absurd (cc)
answer_number entry.Reset n to = absurd (cc)
answer_number (entry.Pick m) n to = absurd (cc)
answer_number (entry.Retire m) n to = absurd (cc)

-- an answer is no mark, and is no request either
pub answer_no_mark : (e : Entry) (n : ℕ) → answered_number e ≡ Some n → is_mark e ≡ false
answer_no_mark (entry.Got m tuples values) n is = refl
answer_no_mark (entry.Value m value) n is = refl
answer_no_mark (entry.End m) n is = refl
answer_no_mark (entry.Ask m turn call) n is = absurd (cc)
answer_no_mark entry.Level n is = absurd (cc)
answer_no_mark (entry.Dream uses steps) n is = absurd (cc)
answer_no_mark entry.Nothing n is = absurd (cc)
answer_no_mark entry.Reset n is = absurd (cc)
answer_no_mark (entry.Pick m) n is = absurd (cc)
answer_no_mark (entry.Retire m) n is = absurd (cc)

some_is : (m n : ℕ) → Some m ≡ Some n → m ≡ n
some_is m n e = cc

-- ---- tests of a course

is_over_where : (n : ℕ) (cut : Bool) → n ≡ 0 → cut ≡ false → ((n == 0) && not cut) ≡ true
is_over_where n cut none uncut = rw (eq-eqb n 0 none, uncut) refl

module _ (task : Task) (entries : List Entry) (a : ModeAgenda) where
  pub awaits_between : AwaitsPhase (mode_place_in task entries a) resting → (is_over a.batch && is_resting a.phase) ≡ true
  awaits_between w = λ i. is_over_where a.batch.answers a.batch.is_cut w.answered w.uncut i && is_resting (w.phase_is i)

  pub awaits_undreamt : AwaitsPhase (mode_place_in task entries a) undreamt → (is_over a.batch && is_undreamt a.phase) ≡ true
  awaits_undreamt w = λ i. is_over_where a.batch.answers a.batch.is_cut w.answered w.uncut i && is_undreamt (w.phase_is i)

  awaits_dreamt : AwaitsPhase (mode_place_in task entries a) dreamt → (is_over a.batch && is_dreamt a.phase) ≡ true
  awaits_dreamt w = λ i. is_over_where a.batch.answers a.batch.is_cut w.answered w.uncut i && is_dreamt (w.phase_is i)

  pub awaits_a_line : AwaitsLine (mode_place_in task entries a) → (is_over a.batch && awaits_line a.phase) ≡ true
  awaits_a_line w = λ i. is_over_where a.batch.answers a.batch.is_cut w.answered w.uncut i && w.line i

  pub over_where : a.batch.answers ≡ 0 → a.batch.is_cut ≡ false → is_over a.batch ≡ true
  over_where answered uncut = is_over_where a.batch.answers a.batch.is_cut answered uncut

  awaits_pick : AwaitsPick (mode_place_in task entries a)
      → ((is_over a.batch && is_dreamt a.phase) ≡ true) ⊎ ((is_over a.batch && is_undreamt a.phase) ≡ true)
  awaits_pick (inl w) = inl (awaits_dreamt w)
  awaits_pick (inr w) = inr (awaits_undreamt w)

-- ---- turns

module _ (limits : Limits) (task : Task) (entries : List Entry) (l : Knowledge) (a : ModeAgenda)
    (s : StandsBehind limits task entries l a) where
  abbrev pub here : ModePlace
  here = mode_place_in task entries a

  -- a mark isn't of a batch
  no_batch : {A : Type 0} (e : Entry) (d : Course) → is_mark e ≡ true → IsBatchStep limits task entries here.batch e d → A
  no_batch e d mark step = absurd (true≢false (sym mark ∙ batch_no_mark limits task entries here e d s.leads step))

  batch_step : (e : Entry) → is_mark e ≡ false → AreBegun limits task (entries ++ e ∷ [])
      → (d : Course) × IsBatchStep limits task entries here.batch e d
  batch_step e other begun =
      let step = next_step limits task entries here s.leads e begun in
      batch_of limits task entries here e step.0 other step.1

  -- a request with which a turn goes on is the next
  pub next_request : (number turn : ℕ) (call : Call)
      → AreBegun limits task (entries ++ entry.Ask number turn call ∷ [])
      → IsNextRequest task l a.batch number turn call
  next_request number turn call begun = by (batch_step (entry.Ask number turn call) refl begun)
    where
      by : (d : Course) × IsBatchStep limits task entries here.batch (entry.Ask number turn call) d
          → IsNextRequest task l a.batch number turn call
      by (d, inl m) =
          let first = first_request task entries (asks_of entries + 1) a.batch.to_ask (entry.Ask number turn call) m.rest m.asks in
          record {
            instance = first.0;
            head = first.1;
            is =
                first.2
                ∙ (λ k. entry.Ask (sym s.knowledge.counted k + 1)
                (yields_of (sym s.knowledge.notes k) first.0) (call_of_instance task (sym s.knowledge.known k).names first.0));
          }
      by (d, inr g) = absurd (let to = g.to in cc)

  -- an answer with which a turn goes on answers the next request of a round that is asked
  pub next_answer : (e : Entry) (n : ℕ) → answered_number e ≡ Some n
      → AreBegun limits task (entries ++ e ∷ [])
      → (n ≡ a.batch.next) × (a.batch.to_ask ≡ []) × (0 < a.batch.answers)
  next_answer e n is begun = by (batch_step e (answer_no_mark e n is) begun)
    where
      by : (d : Course) × IsBatchStep limits task entries here.batch e d
          → (n ≡ a.batch.next) × (a.batch.to_ask ≡ []) × (0 < a.batch.answers)
      by (d, inl m) =
          let first = first_request task entries (asks_of entries + 1) a.batch.to_ask e m.rest m.asks in
          absurd (let none : None ≡ Some n = sym (ap answered_number first.2) ∙ is in cc)
      by (d, inr g) =
          let asked = none_to_ask task entries (asks_of entries + 1) a.batch.to_ask g.asked in
          let answers = g.answers in
          (some_is n a.batch.next (sym is ∙ answer_number e a.batch.next g.to), asked, omega (arith, answers))

  -- a level with which a turn goes on may be asked, and something is due
  pub next_level : AreBegun limits task (entries ++ entry.Level ∷ []) → AsksLevel limits.mode a × MayBegin limits task entries
  next_level begun = by (next_step limits task entries here s.leads entry.Level begun)
    where
      by : (after : ModePlace) × IsModeStep limits task entries here entry.Level after → AsksLevel limits.mode a
          × MayBegin limits task entries
      by (after, goes_on d t is) = no_batch entry.Level d refl t
      by (after, begins_level t) = (inl (t.mode, awaits_between task entries a t.awaits), t.begins.may)
      by (after, tells_dream t) = absurd (let is = t.is in cc)
      by (after, tells_none t) = absurd (let is = t.is in cc)
      by (after, resets t) = absurd (let is = t.is in cc)
      by (after, falls_back t) =
          (inr ((awaits_undreamt task entries a t.awaits, t.no_skeleton), t.untried), (s.dreamless t.awaits.phase_is).1)
      by (after, picks t) = absurd (let is = t.is in cc)
      by (after, retires t) = absurd (let is = t.is in cc)

  -- where a turn goes on with a reset there is no dream, no skeleton to pick, and something was tried
  pub next_reset : AreBegun limits task (entries ++ entry.Reset ∷ []) → HasNothing limits.mode a × (0 < length a.kept.tried)
  next_reset begun = by (next_step limits task entries here s.leads entry.Reset begun)
    where
      by : (after : ModePlace) × IsModeStep limits task entries here entry.Reset after
          → HasNothing limits.mode a × (0 < length a.kept.tried)
      by (after, goes_on d t is) = no_batch entry.Reset d refl t
      by (after, begins_level t) = absurd (let is = t.begins.is in cc)
      by (after, tells_dream t) = absurd (let is = t.is in cc)
      by (after, tells_none t) = absurd (let is = t.is in cc)
      by (after, resets t) = ((awaits_undreamt task entries a t.awaits, t.no_skeleton), t.tried)
      by (after, falls_back t) = absurd (let is = t.is in cc)
      by (after, picks t) = absurd (let is = t.is in cc)
      by (after, retires t) = absurd (let is = t.is in cc)

  -- ---- skeletons

  -- where a turn goes on with a pick, a skeleton comes to be picked, and it is the one that is told
  pub record PicksIt (n : ℕ) : Type 0 where
    pub comes : PicksNext limits.mode a
    pub place : ℕ
    pub skeleton : Skeleton
    pub picked : IsPicked a.kept.skeletons place skeleton
    pub is : n ≡ place + 1

  pub next_pick : (n : ℕ) → AreBegun limits task (entries ++ entry.Pick n ∷ []) → PicksIt n
  next_pick n begun = by (next_step limits task entries here s.leads (entry.Pick n) begun)
    where
      by : (after : ModePlace) × IsModeStep limits task entries here (entry.Pick n) after → PicksIt n
      by (after, goes_on d t is) = no_batch (entry.Pick n) d refl t
      by (after, begins_level t) = absurd (let is = t.begins.is in cc)
      by (after, tells_dream t) = absurd (let is = t.is in cc)
      by (after, tells_none t) = absurd (let is = t.is in cc)
      by (after, resets t) = absurd (let is = t.is in cc)
      by (after, falls_back t) = absurd (let is = t.is in cc)
      by (after, picks t) =
          let is = t.is in
          record {
            comes = (t.mode, awaits_pick task entries a t.awaits);
            place = t.place;
            skeleton = t.skeleton;
            picked = t.picked;
            is = let same : n ≡ t.place + 1 = cc in same;
          }
      by (after, retires t) = absurd (let is = t.is in cc)

  -- where a turn goes on with a skeleton that is given up, it is the one of which nothing was asked
  pub next_retire : (n : ℕ) → AreBegun limits task (entries ++ entry.Retire n ∷ [])
      → (place : ℕ) × (n ≡ place + 1) × (a.phase ≡ unasked place) × (is_over a.batch ≡ true)
  next_retire n begun = by (next_step limits task entries here s.leads (entry.Retire n) begun)
    where
      by : (after : ModePlace) × IsModeStep limits task entries here (entry.Retire n) after
          → (place : ℕ) × (n ≡ place + 1) × (a.phase ≡ unasked place) × (is_over a.batch ≡ true)
      by (after, goes_on d t is) = no_batch (entry.Retire n) d refl t
      by (after, begins_level t) = absurd (let is = t.begins.is in cc)
      by (after, tells_dream t) = absurd (let is = t.is in cc)
      by (after, tells_none t) = absurd (let is = t.is in cc)
      by (after, resets t) = absurd (let is = t.is in cc)
      by (after, falls_back t) = absurd (let is = t.is in cc)
      by (after, picks t) = absurd (let is = t.is in cc)
      by (after, retires t) =
          let is = t.is in (
            t.place,
            (let same : n ≡ t.place + 1 = cc in same),
            t.awaits.phase_is,
            over_where task entries a t.awaits.answered t.awaits.uncut,
          )
