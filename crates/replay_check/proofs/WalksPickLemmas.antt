-- A skeleton is picked or given up, or the line that says so is wrong.
use Rattle.std.proofs.Common.{◌≡◌, ℕ, ◌+◌, ◌<◌, inl, inr, true, List, [], ◌∷◌, ◌++◌, take, length, refl, sym, ap, subst, ◌∙◌, Some, slice_get, arith}
use Rattle.std.specs.List.{list_all}
use Rattle.course_check.proofs.KeepsLemmas.{run_picked}
use Rattle.course_check.proofs.MadeLemmas.{awaits_where, dreamt_awaits, pick_made, retire_made, undreamt_awaits}
use Rattle.course_check.proofs.FewLemmas.{agenda_few, pick_left as call_left}
use Rattle.course_check.proofs.StepsLemmas.{phases_differ, picked_place}
use Rattle.course_check.specs.Agendas.{HasPicked, KeepsRun, mode_place_in}
use Rattle.course_check.specs.BatchAgendas.{is_over}
use Rattle.course_check.specs.Places.{AwaitsPick, ModePlace, is_repeated, picks, resting, retires, unasked}
use Rattle.task_model.specs.Known.{Known}
use Rattle.task_model.specs.Streams.{Note}
use Rattle.task_model.specs.declared.task.Task.{Task}
use Rattle.learning.specs.declared.knowledge.Knowledge.{Knowledge}
use Rattle.transcript_model.specs.Laws.{AddsMark}
use Rattle.transcript_model.specs.Legal.{asks_of}
use Rattle.transcript_model.specs.Rounds.{Limits}
use Rattle.transcript_model.specs.Transcript.{known_of, notes_of}
use Rattle.transcript_model.specs.Turns.{IsPicked, Skeleton}
use Rattle.transcript_model.specs.declared.entry.Entry.{Entry}
use Rattle.transcript_model.specs.declared.entry.Entry.TheVariants as entry
use Rattle.replay_check.proofs.DueLemmas.{none_picked}
use Rattle.replay_check.proofs.NextLemmas.{PicksIt, next_pick, next_retire}
use Rattle.replay_check.proofs.StandingsMarkLemmas.{adds, closed_behind, idle_asks, mark_knowledge, mark_onward, moves_onward}
use Rattle.replay_check.proofs.WalksLemmas.{is_taken, is_wrong}
use Rattle.replay_check.proofs.WalksTurnLemmas.{line_length}
use Rattle.replay_check.proofs.WrongLemmas.{mark_order}
use Rattle.replay_check.specs.Standings.{IsStanding, StandsBehind, limits_by}
use Rattle.replay_check.specs.Turns.{PicksNext, RunsPick}
use Rattle.replay_check.specs.Walks.{CanTake, IsWrongAt}
use Rattle.replay_check.specs.declared.bounds.Bounds.{Bounds}
use Rattle.replay_check.specs.declared.standing.Standing.{Standing}
use Rattle.replay_check.specs.declared.verdict.BreachKind.TheVariants as kind

module _ (b : Bounds) (entries : List Entry) (place : ℕ) (s : Standing) (can : CanTake b entries place s) where
  abbrev task : Task
  task = b.task.now

  abbrev before : List Entry
  before = take place entries

  abbrev limits : Limits
  limits = limits_by b

  abbrev stands : StandsBehind limits task before s.knowledge s.course
  stands = can.standing.stands

  abbrev here : ModePlace
  here = mode_place_in task before s.course

  -- ---- picks

  pick_refused : (n : ℕ) → slice_get entries place ≡ Some (entry.Pick n)
      → (PicksIt limits task before s.knowledge s.course stands n → ⊥) → IsWrongAt b entries place 0 kind.Order
  pick_refused n there other =
      is_wrong b entries place s can (entry.Pick n) there 0 kind.Order
      (mark_order b.limit limits task before (entry.Pick n) refl
      (λ begun. other (next_pick limits task before s.knowledge s.course stands n begun)))

  -- none is to be picked here
  pub no_pick : (n : ℕ) → slice_get entries place ≡ Some (entry.Pick n)
      → (PicksNext b.mode s.course → list_all (λ (x : Skeleton). x.retired) s.course.kept.skeletons ≡ true)
      → IsWrongAt b entries place 0 kind.Order
  no_pick n there none =
      pick_refused n there (λ p. none_picked s.course.kept.skeletons p.place p.skeleton (none p.comes) p.picked)

  -- another is
  pub other_pick : (n : ℕ) → slice_get entries place ≡ Some (entry.Pick n) → (k : ℕ) (skeleton : Skeleton)
      → IsPicked s.course.kept.skeletons k skeleton → ¬ (k + 1 ≡ n) → IsWrongAt b entries place 0 kind.Order
  other_pick n there k skeleton picked other =
      pick_refused n there (λ p.
      other (ap (λ m. m + 1) (picked_place s.course.kept.skeletons k p.place skeleton p.skeleton picked p.picked) ∙ sym p.is))

  pub awaits_pick : PicksNext b.mode s.course → AwaitsPick here
  awaits_pick (mode, inl dream) = inl (dreamt_awaits task before s.course dream)
  awaits_pick (mode, inr none) = inr (undreamt_awaits task before s.course none)

  -- a call is left
  pub pick_left : PicksNext b.mode s.course → length s.knowledge.asked.items < b.calls
  pick_left comes =
      let left = call_left limits task before here stands.leads (awaits_pick comes) in
      let counted = stands.knowledge.counted in
      omega (arith, left, counted)

  -- it was picked no more often than something was asked
  pub picked_few : (k : ℕ) (skeleton : Skeleton) → IsPicked s.course.kept.skeletons k skeleton → skeleton.picks < 4294967295
  picked_few k skeleton p =
      let most = agenda_few limits task before s.course stands.leads k skeleton p.there p.kept in
      let left = stands.counts.left in
      let few = can.bounds.calls in
      omega (arith, most, left, few)

  idle_here : PicksNext b.mode s.course → s.course.batch.answers ≡ 0
  idle_here comes = by (awaits_pick comes)
    where
      by : AwaitsPick here → s.course.batch.answers ≡ 0
      by (inl w) = w.answered
      by (inr w) = w.answered

  module _ (k : ℕ) (there : slice_get entries place ≡ Some (entry.Pick (k + 1))) (comes : PicksNext b.mode s.course)
      (skeleton : Skeleton) (picked : IsPicked s.course.kept.skeletons k skeleton) (new : Standing)
      (h : RunsPick b (place + 1) k skeleton s new) where
    abbrev line : Entry
    line = entry.Pick (k + 1)

    abbrev marked : List Entry
    marked = before ++ line ∷ []

    abbrev known : Known
    known = s.knowledge.facts.known

    abbrev notes : List Note
    notes = s.knowledge.queue

    adds_line : AddsMark task before marked
    adds_line = adds limits task before s.knowledge s.course stands line refl

    -- it is picked behind so many entries and so many requests
    picked_counted : HasPicked task known notes limits.pools k skeleton (length marked) (asks_of marked) limits.calls s.course new.course
    picked_counted =
        let counted : length s.knowledge.asked.items ≡ asks_of marked = stands.knowledge.counted ∙ sym adds_line.asks in
        subst (λ n. HasPicked task known notes limits.pools k skeleton n (asks_of marked) limits.calls s.course new.course)
        (line_length b entries place s can line there)
        (subst (λ n. HasPicked task known notes limits.pools k skeleton (place + 1) n limits.calls s.course new.course) counted
        h.picked)

    keeps_run : KeepsRun limits.calls marked new.course
    keeps_run =
        let same = adds_line.asks in
        let left = stands.counts.left in
        run_picked limits.pools can.bounds.workers limits.calls marked task known notes
        (closed_behind limits task before s.knowledge s.course stands line refl (idle_here comes))
        (omega (arith, same, left)) s.course new.course k skeleton picked_counted

    picked_stands : StandsBehind limits task marked s.knowledge new.course
    picked_stands =
        let p = picked_counted in
        let idle = idle_here comes in
        let closed = closed_behind limits task before s.knowledge s.course stands line refl idle in
        let knowledge = mark_knowledge limits task before s.knowledge s.course stands line refl in
        let known_behind : known ≡ known_of task marked = stands.knowledge.known ∙ sym adds_line.same.known in
        let notes_behind : notes ≡ notes_of task marked = stands.knowledge.notes ∙ sym adds_line.same.notes in
        moves_onward limits task before s.knowledge s.course stands line refl new.course idle
        (picks (pick_made limits task before s.course new.course can.bounds.workers limits.version can.bounds.fit known notes comes.0
        (awaits_pick comes) k skeleton picked knowledge.legal closed known_behind notes_behind (length marked) (asks_of marked) refl p))
        known notes (unasked k) skeleton.entries skeleton.real (length marked) (asks_of marked) p.middle refl adds_line.asks p.moves
        p.batch_is p.phase_is keeps_run

    pub pick_taken : IsStanding b (take (place + 1) entries) new
    pick_taken =
        is_taken b entries place s can line there new
        (subst (λ (l : Knowledge). StandsBehind limits task marked l new.course) (sym h.knowledge_is) picked_stands) (λ is. absurd (cc))

  -- ---- skeletons that are given up

  pub retire_refused : (n : ℕ) → slice_get entries place ≡ Some (entry.Retire n)
      → ((k : ℕ) → n ≡ k + 1 → s.course.phase ≡ unasked k → is_over s.course.batch ≡ true → ⊥) → IsWrongAt b entries place 0 kind.Order
  retire_refused n there other =
      is_wrong b entries place s can (entry.Retire n) there 0 kind.Order
      (mark_order b.limit limits task before (entry.Retire n) refl
      (λ begun. let t = next_retire limits task before s.knowledge s.course stands n begun in other t.0 t.1 t.2 t.3))

  pub retire_taken : (k : ℕ) → slice_get entries place ≡ Some (entry.Retire (k + 1)) → s.course.phase ≡ unasked k
      → is_over s.course.batch ≡ true → (new : Standing) → new.knowledge ≡ s.knowledge → new.course.batch ≡ s.course.batch
      → new.course.phase ≡ resting → new.course.kept ≡ s.course.kept → IsStanding b (take (place + 1) entries) new
  retire_taken k there is over new knowledge batch phase kept =
      let line = entry.Retire (k + 1) in
      let awaits = awaits_where task before s.course (unasked k) over is in
      let idle = idle_asks limits task before s.knowledge s.course stands line refl awaits.answered in
      is_taken b entries place s can line there new
      (subst (λ (l : Knowledge). StandsBehind limits task (before ++ line ∷ []) l new.course) (sym knowledge)
      (mark_onward limits task before s.knowledge s.course stands line refl new.course awaits.answered
      (retires (retire_made limits task before s.course new.course idle k awaits batch phase kept)) batch (ap is_repeated phase)
      (λ is. absurd (phases_differ (sym phase ∙ is))))) (λ is. absurd (cc))
