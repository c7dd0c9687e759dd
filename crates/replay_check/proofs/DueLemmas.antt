-- What is due where a turn may begin.
use Rattle.std.proofs.Common.{◌≡◌, ◌∙◌, ◌↔◌, ◌&&◌, ◌<◌, ℕ, List, length, refl, sym, ap, arith, Bool, true, false, not, Option, Some, None, IfSome, IfNone, IsTrue, is_some}
use Rattle.std.proofs.lemmas.Bool.{true≢false}
use Rattle.std.proofs.lemmas.List.{length-map}
use Rattle.instance_queue.specs.Level.{AreDueInTurn, due_instances}
use Rattle.instance_queue.specs.declared.due.Due.{Due}
use Rattle.std.specs.List.{list_all}
use Rattle.lemmas.proofs.ListTests.{all_at}
use Rattle.lemmas.proofs.Pigeonhole.{pigeons}
use Rattle.course_check.proofs.MadeLemmas.{between_awaits}
use Rattle.course_check.specs.Agendas.{ModeAgenda, is_resting, mode_place_in}
use Rattle.course_check.specs.BatchAgendas.{is_over}
use Rattle.pools.specs.Pools.{HaveWorkers}
use Rattle.task_model.proofs.StreamsLemmas.{due_once}
use Rattle.task_model.specs.Streams.{MoreAreDue}
use Rattle.task_model.specs.declared.task.Task.{Task}
use Rattle.learning.specs.declared.knowledge.Knowledge.{Knowledge}
use Rattle.transcript_model.specs.Legal.{asks_of}
use Rattle.transcript_model.specs.Rounds.{Limits}
use Rattle.transcript_model.specs.Transcript.{known_of, notes_of}
use Rattle.transcript_model.specs.Turns.{IsPicked, MayBegin, Skeleton}
use Rattle.transcript_model.specs.declared.entry.Entry.{Entry}
use Rattle.transcript_model.specs.declared.head.Mode.TheVariants.{Incremental}
use Rattle.replay_check.proofs.ClaimsLemmas.{all_due, more_due}
use Rattle.replay_check.proofs.NextLemmas.{awaits_between}
use Rattle.replay_check.proofs.PlacesLemmas.{may_here, rests_between}
use Rattle.replay_check.specs.Breaches.{BeginsTurn}
use Rattle.replay_check.specs.Standings.{StandsBehind}
use Rattle.replay_check.specs.Turns.{AreDueFor}

-- where all are given up none is picked
pub none_picked : (xs : List Skeleton) (place : ℕ) (s : Skeleton) → list_all (λ (x : Skeleton). x.retired) xs ≡ true
    → IsPicked xs place s → ⊥
none_picked xs place s all p = true≢false (sym (all_at (λ (x : Skeleton). x.retired) xs place s all p.there) ∙ p.kept)

-- what is there exactly where it may be
pub there_where : {A : Type 0} (o : Option A) (P : A → Type 0) (M : Type 0) → IfSome o P → IfNone o (¬ M) → ((x : A) → P x → M)
    → IsTrue (is_some o) ↔ M
there_where (Some x) P M some none of = (λ yes. of x some, λ m. refl)
there_where None P M some none of = (λ yes. absurd (cc), λ m. absurd (none m))

-- a skeleton is to be picked, or all are given up
pub none_where : (skeletons : List Skeleton) (o : Option ℕ)
    → IfSome o (λ place. (s : Skeleton) × IsPicked skeletons place s)
    → IfNone o (list_all (λ (s : Skeleton). s.retired) skeletons ≡ true)
    → (empty : Bool) → not empty ≡ is_some o → IsTrue empty ↔ (list_all (λ (s : Skeleton). s.retired) skeletons ≡ true)
none_where skeletons (Some place) some none true is = absurd (cc)
none_where skeletons (Some place) some none false is =
    (λ empty. absurd (cc), λ all. absurd (none_picked skeletons place some.0 all some.1))
none_where skeletons None some none true is = (λ empty. none, λ all. refl)
none_where skeletons None some none false is = absurd (cc)

module _ (limits : Limits) (task : Task) (entries : List Entry) (l : Knowledge) (a : ModeAgenda)
    (s : StandsBehind limits task entries l a) where
  module _ (dues : List Due) (turn : AreDueInTurn task l.facts.known l.queue dues) where
    long : length (due_instances dues) ≡ length dues
    long = length-map dues (λ (d : Due). d.instance)

    -- something is due, but not too much, and a call is left
    pub due_for : 0 < length dues → asks_of entries < limits.calls → AreDueFor limits task entries dues
    due_for some left =
        let few = turn.few in
        let count = long in (
          record {
            list = due_instances dues;
            due = all_due limits.version task entries l s.knowledge dues turn;
            some = omega (arith, some, count);
            few = omega (arith, few, count);
            left = left;
          },
          refl,
        )

    -- where nothing is due, no turn begins
    pub none_begins : length dues ≡ 0 → ¬ (MayBegin limits task entries)
    none_begins none may =
        let due = all_due limits.version task entries l s.knowledge dues turn in
        let same : due_instances dues ≡ may.list =
        due_once task (known_of task entries) (notes_of task entries) (due_instances dues) may.list due may.due in
        let lists = ap length same in
        let some = may.some in
        let count = long in
        omega (arith, lists, count, none, some)

  -- where too much is due, none begins either
  pub many_begin : MoreAreDue 1000000 task l.facts.known l.queue → ¬ (MayBegin limits task entries)
  many_begin more may =
      let all = more_due limits.version task entries l s.knowledge more in
      let le = pigeons all.0 may.list all.2 (λ i m. (may.due.each i).1 (all.3 i m)) in
      let many = all.1 in
      let few = may.few in
      omega (arith, le, many, few)

  -- where a turn of a mode that dreams begins
  pub begins_turn : HaveWorkers limits.pools → ¬ (limits.mode ≡ Incremental) → (is_over a.batch && is_resting a.phase) ≡ true
      → MayBegin limits task entries → BeginsTurn limits task entries
  begins_turn workers dreams between may =
      let awaits = between_awaits task entries a between in
      (dreams, may, rests_between limits task entries (mode_place_in task entries a) s.leads workers awaits)

  pub begins_between : BeginsTurn limits task entries → (is_over a.batch && is_resting a.phase) ≡ true
  begins_between begins =
      awaits_between task entries a (may_here limits task entries (mode_place_in task entries a) s.leads begins).awaits
