-- The claim that all calls are made and answered, and an instance is still due.
use Rattle.std.proofs.Common.{◌≡◌, ℕ, ◌<◌, List, [], ◌∷◌, length, refl, sym, ap, subst, ◌∙◌, arith, Bool, true, false, not, ◌==◌, ◌||◌, eq-eqb, ne_eqb, Contains}
use Rattle.instance_queue.specs.Level.{AreDueInTurn}
use Rattle.instance_queue.specs.declared.due.Due.{Due}
use Rattle.task_model.specs.Streams.{IsDue, MoreAreDue}
use Rattle.task_model.specs.declared.stream.Instance.{Instance}
use Rattle.task_model.specs.declared.task.Task.{Task}
use Rattle.transcript_model.specs.Legal.{HasNoneOpen}
use Rattle.transcript_model.specs.Transcript.{known_of, notes_of}
use Rattle.transcript_model.specs.declared.entry.Entry.{Entry}
use Rattle.transcript_model.specs.declared.outcome.LimitKind.TheVariants.{Calls}
use Rattle.transcript_model.specs.declared.outcome.Outcome.TheVariants as outcome
use Rattle.learning.specs.Knowledge.{IsKnowledge}
use Rattle.lemmas.specs.Lists.{has_number}
use Rattle.learning.specs.declared.knowledge.Knowledge.{Knowledge}
use Rattle.replay_check.proofs.ClaimsLemmas.{more_due, none_due_at, some_due}
use Rattle.replay_check.specs.Claims.{IsJudged, claim_of}
use Rattle.replay_check.specs.Standings.{limits_by}
use Rattle.replay_check.specs.declared.bounds.Bounds.{Bounds}
use Rattle.replay_check.specs.declared.claims.Claim.{Claim}
use Rattle.replay_check.specs.declared.claims.Claim.TheVariants.{True, False}

-- ---- numbers that wait

-- a list that has a number has its first
has_first : (m : ℕ) (ms : List ℕ) → has_number (m ∷ ms) m ≡ true
has_first m ms = ap (λ (b : Bool). b || has_number ms m) (eq-eqb m m refl)

some_among : (numbers : List ℕ) → 0 < length numbers → ((n : ℕ) → has_number numbers n ≡ false) → ⊥
some_among [] some none = omega (arith, some)
some_among (m ∷ ms) some none =
    let both : true ≡ false = sym (has_first m ms) ∙ none m in absurd (cc)

none_among : (numbers : List ℕ) → length numbers ≡ 0 → (n : ℕ) → has_number numbers n ≡ false
none_among [] empty n = refl
none_among (m ∷ ms) empty n = absurd (omega (arith, empty))

-- ---- the claim

module _ (b : Bounds) (limit : ℕ) (task : Task) (entries : List Entry) (l : Knowledge) (h : IsKnowledge b.version task entries l) where
  abbrev IsSaid : Claim → Type 0
  IsSaid = IsJudged (limits_by b) limit task entries (outcome.Limit Calls)

  -- another number of requests was made
  pub other_calls : ¬ (length l.asked.items ≡ b.calls) → IsSaid False
  other_calls other = (λ p. other (h.counted ∙ p.calls), λ none. none)

  -- a request waits
  pub some_wait : 0 < length l.unanswered.items → IsSaid False
  some_wait some =
      (λ p. some_among l.unanswered.items some (λ n. h.unanswered n ∙ p.none_open n), λ none. none)

  none_wait : length l.unanswered.items ≡ 0 → HasNoneOpen entries
  none_wait empty n = sym (h.unanswered n) ∙ none_among l.unanswered.items empty n

  module _ (all : length l.asked.items ≡ b.calls) (empty : length l.unanswered.items ≡ 0) where
    past : (i : Instance) → IsDue task (known_of task entries) (notes_of task entries) i
        → IsSaid True
    past i due = (record { calls = sym h.counted ∙ all; none_open = none_wait empty; instance = i; due = due }, λ none. none)

    of_many : (instances : List Instance) → 1000000 < length instances
        → ((i : Instance) → Contains instances i → IsDue task (known_of task entries) (notes_of task entries) i) → IsSaid True
    of_many [] many each = absurd (omega (arith, many))
    of_many (i ∷ more) many each = past i (each i (0, omega arith, refl))

    -- too much is due
    pub past_many : MoreAreDue 1000000 task l.facts.known l.queue → IsSaid True
    past_many due =
        let more = more_due b.version task entries l h due in of_many more.0 more.1 more.3

    -- something is due, or nothing
    pub past_some : (dues : List Due) → AreDueInTurn task l.facts.known l.queue dues
        → IsSaid (claim_of (not (length dues == 0)))
    past_some [] turn =
        (λ p. none_due_at b.version task entries l h [] refl turn p.instance p.due, λ none. none)
    past_some (d ∷ more) turn =
        let not_empty : (length (d ∷ more) == 0) ≡ false = ne_eqb (length (d ∷ more)) 0 (λ e. omega (arith, e)) in
        subst (λ is. IsSaid (claim_of (not is)))
        (sym not_empty) (past d.instance (some_due b.version task entries l h (d ∷ more) d more turn refl))
