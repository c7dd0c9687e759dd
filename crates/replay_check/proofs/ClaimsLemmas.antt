-- Claims of outcomes, from what is kept of the entries.
use Rattle.std.proofs.Common.{◌≡◌, ◌==◌, ◌↔◌, ℕ, ◌<◌, Bool, true, false, not, Some, List, [], ◌∷◌, length, refl, sym, ap, subst, ◌∙◌, arith, Contains, IsTrue}
use Rattle.std.proofs.lemmas.Bool.{ne_eqb, true≢false}
use Rattle.std.proofs.lemmas.List.{length-map}
use Rattle.best_first.specs.Answer.{IsSolvableWithin}
use Rattle.lemmas.proofs.Pigeonhole.{pigeons}
use Rattle.instance_queue.specs.Level.{AreDueInTurn, due_instances}
use Rattle.instance_queue.specs.declared.due.Due.{Due}
use Rattle.task_model.proofs.StreamsLemmas.{nothing_due}
use Rattle.task_model.specs.Known.{Known}
use Rattle.task_model.specs.Plans.{IsReached, IsSolvable, MoreThan}
use Rattle.task_model.specs.Streams.{AreDue, IsDue, MoreAreDue, NothingIsDue}
use Rattle.task_model.specs.declared.stream.Instance.{Instance}
use Rattle.task_model.specs.declared.task.Task.{Task}
use Rattle.learning.specs.Knowledge.{IsKnowledge}
use Rattle.learning.specs.declared.knowledge.Knowledge.{Knowledge}
use Rattle.transcript_model.specs.Legal.{HasNoneOpen}
use Rattle.transcript_model.specs.Rounds.{Limits}
use Rattle.transcript_model.specs.Transcript.{known_of, notes_of}
use Rattle.transcript_model.specs.declared.entry.Entry.{Entry}
use Rattle.transcript_model.specs.declared.outcome.Outcome.TheVariants as outcome
use Rattle.replay_check.specs.Claims.{IsJudged, claim_of}
use Rattle.replay_check.specs.declared.claims.Claim.TheVariants.{Open}

module _ (version : ℕ) (task : Task) (entries : List Entry) (l : Knowledge) (h : IsKnowledge version task entries l) where
  -- too much is due after the entries
  pub more_due : MoreAreDue 1000000 task l.facts.known l.queue
      → MoreAreDue 1000000 task (known_of task entries) (notes_of task entries)
  more_due more =
      subst (λ k. MoreAreDue 1000000 task k (notes_of task entries)) h.known (subst (MoreAreDue 1000000 task l.facts.known) h.notes more)

  -- what is due after the entries
  pub all_due : (dues : List Due) → AreDueInTurn task l.facts.known l.queue dues
      → AreDue task (known_of task entries) (notes_of task entries) (due_instances dues)
  all_due dues turn =
      subst (λ k. AreDue task k (notes_of task entries) (due_instances dues)) h.known
      (subst (λ notes. AreDue task l.facts.known notes (due_instances dues)) h.notes turn.due)

  -- not too much is due
  pub few_due : (dues : List Due) → AreDueInTurn task l.facts.known l.queue dues
      → MoreAreDue 1000000 task (known_of task entries) (notes_of task entries) → ⊥
  few_due dues turn more =
      let due = all_due dues turn in
      let le = pigeons more.0 (due_instances dues) more.2 (λ i m. (due.each i).1 (more.3 i m)) in
      let same : length (due_instances dues) ≡ length dues = length-map dues (λ (d : Due). d.instance) in
      let few = turn.few in
      let many = more.1 in
      omega (arith, le, same, few, many)

  -- ---- states, of which there are more than so many or not

  -- something is due where the list isn't empty
  pub some_due : (dues : List Due) (d : Due) (more : List Due)
      → AreDueInTurn task l.facts.known l.queue dues → dues ≡ d ∷ more
      → IsDue task (known_of task entries) (notes_of task entries) d.instance
  some_due dues d more turn is =
      let due = all_due (d ∷ more) (subst (AreDueInTurn task l.facts.known l.queue) is turn) in
      (due.each d.instance).0 (0, omega arith, refl)

  -- nothing is due where it is
  pub none_due : (dues : List Due) → AreDueInTurn task l.facts.known l.queue dues → dues ≡ []
      → NothingIsDue task (known_of task entries) (notes_of task entries)
  none_due dues turn is =
      nothing_due task (known_of task entries) (notes_of task entries) (due_instances dues) (all_due dues turn) (ap due_instances is)

  -- where something is due, it isn't so that nothing is
  pub not_none_due : (dues : List Due) (d : Due) (more : List Due)
      → AreDueInTurn task l.facts.known l.queue dues → dues ≡ d ∷ more
      → NothingIsDue task (known_of task entries) (notes_of task entries) → ⊥
  not_none_due dues d more turn is none = none d.instance (some_due dues d more turn is)

  -- where too much is due, it isn't so that nothing is
  pub not_none_more : MoreAreDue 1000000 task (known_of task entries) (notes_of task entries)
      → NothingIsDue task (known_of task entries) (notes_of task entries) → ⊥
  not_none_more more none = some_member more.0 more.1 (λ i m. none i (more.3 i m))
    where
      some_member : (is : List Instance) → 1000000 < length is
          → ((i : Instance) → Contains is i → ⊥) → ⊥
      some_member [] many each = omega (arith, many)
      some_member (i ∷ is) many each = each i (0, omega arith, refl)

  -- where the list of what is due has a member, it isn't so that nothing is due
  pub not_none_some : (dues : List Due) → 0 < length dues
      → AreDueInTurn task l.facts.known l.queue dues
      → NothingIsDue task (known_of task entries) (notes_of task entries) → ⊥
  not_none_some [] some turn none = omega (arith, some)
  not_none_some (d ∷ more) some turn none = not_none_due (d ∷ more) d more turn refl none

  -- where the list has none, nothing is due
  pub none_due_at : (dues : List Due) → length dues ≡ 0
      → AreDueInTurn task l.facts.known l.queue dues
      → NothingIsDue task (known_of task entries) (notes_of task entries)
  none_due_at [] empty turn = none_due [] turn refl
  none_due_at (d ∷ more) empty turn = absurd (omega (arith, empty))

  -- a list that is empty exactly where nothing is due
  pub nothing_due_is : (dues : List Due) (empty : Bool) → AreDueInTurn task l.facts.known l.queue dues
      → empty ≡ (length dues == 0)
      → IsTrue empty ↔ NothingIsDue task (known_of task entries) (notes_of task entries)
  nothing_due_is [] empty turn is = (λ yes. none_due [] turn refl, λ none. is)
  nothing_due_is (d ∷ more) empty turn is = (
    λ yes. absurd (true≢false (sym yes ∙ is ∙ ne_eqb (length (d ∷ more)) 0 (λ e. omega (arith, e)))),
    λ none. absurd (not_none_due (d ∷ more) d more turn refl none),
  )

-- ---- that there is no plan

module _ (limits : Limits) (limit : ℕ) (task : Task) (entries : List Entry) (l : Knowledge)
    (h : IsKnowledge limits.version task entries l) where
  abbrev NoneDue : Type 0
  NoneDue = NothingIsDue task (known_of task entries) (notes_of task entries)

  -- where more states are reached
  pub no_plan_open : NoneDue → MoreThan limit (IsReached task l.facts.known)
      → IsJudged limits limit task entries outcome.NoPlan Open
  no_plan_open none many = (none, subst (λ (k : Known). MoreThan limit (IsReached task k)) h.known many)

  few_reached : ¬ (MoreThan limit (IsReached task l.facts.known))
      → ¬ (NoneDue × MoreThan limit (IsReached task (known_of task entries)))
  few_reached few u = few (subst (λ (k : Known). MoreThan limit (IsReached task k)) (sym h.known) u.1)

  -- where no more are
  pub no_plan_said : HasNoneOpen entries → NoneDue → (solvable : Bool) → IsSolvableWithin task l.facts.known limit (Some solvable)
      → IsJudged limits limit task entries outcome.NoPlan (claim_of (not solvable))
  no_plan_said closed none true said = (
    λ p. p.unsolvable (subst (λ (k : Known). IsSolvable task k) h.known said.0),
    few_reached said.1,
  )
  no_plan_said closed none false said = (
    record {
      closed = record { legal = h.legal; none_open = closed; finished = none };
      unsolvable = subst (λ (k : Known). ¬ (IsSolvable task k)) h.known said.0;
    },
    few_reached said.1,
  )
