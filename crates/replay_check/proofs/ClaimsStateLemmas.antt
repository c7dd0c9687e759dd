-- The claim that more states are reached than the limit allows.
use Rattle.std.proofs.Common.{◌≡◌, ◌<◌, ◌≤◌, ◌↔◌, ℕ, List, Bool, true, false, refl, arith, IsTrue}
use Rattle.task_model.specs.Plans.{IsReached, MoreThan}
use Rattle.task_model.specs.declared.task.Task.{Task}
use Rattle.task_model.specs.Streams.{NothingIsDue}
use Rattle.transcript_model.specs.Legal.{IsClosed}
use Rattle.transcript_model.specs.Transcript.{known_of, notes_of}
use Rattle.transcript_model.specs.declared.entry.Entry.{Entry}
use Rattle.transcript_model.specs.declared.head.Mode.TheVariants.{Incremental}
use Rattle.transcript_model.specs.declared.outcome.LimitKind.TheVariants.{States}
use Rattle.transcript_model.specs.declared.outcome.Outcome.TheVariants as outcome
use Rattle.replay_check.specs.Claims.{IsJudged, claim_of}
use Rattle.replay_check.specs.Standings.{limits_by}
use Rattle.replay_check.specs.declared.bounds.Bounds.{Bounds}
use Rattle.replay_check.specs.declared.claims.Claim.TheVariants.{False, Open}

module _ (b : Bounds) (limit : ℕ) (task : Task) (entries : List Entry) where
  -- something is due, in a mode that dreams
  pub states_due : ¬ (¬ (b.mode ≡ Incremental) → NothingIsDue task (known_of task entries) (notes_of task entries))
      → IsJudged (limits_by b) limit task entries (outcome.Limit States) False
  states_due due = (λ p. due (λ dreams. (p.closed dreams).finished), λ u. due u.2)

  -- in incremental mode it doesn't matter what is due, and in the others nothing is
  module _ (closed : ¬ (b.mode ≡ Incremental) → IsClosed b.version task entries) where
    -- where the report's limit is searched
    pub states_decided : (more : Bool) → b.states ≤ limit
        → IsTrue more ↔ MoreThan b.states (IsReached task (known_of task entries))
        → IsJudged (limits_by b) limit task entries (outcome.Limit States) (claim_of more)
    states_decided true le e = (record { many = e.0 refl; closed = closed }, λ u. let lt = u.0 in omega (arith, le, lt))
    states_decided false le e =
        (λ p. let bad : false ≡ true = e.1 p.many in absurd (cc), λ u. let lt = u.0 in omega (arith, le, lt))

    -- where fewer are searched, and there are more
    pub states_open : limit < b.states → MoreThan limit (IsReached task (known_of task entries))
        → IsJudged (limits_by b) limit task entries (outcome.Limit States) Open
    states_open lt many = (lt, many, λ dreams. (closed dreams).finished)

  -- where fewer are searched, and there are no more
  pub states_few : limit < b.states → ¬ (MoreThan limit (IsReached task (known_of task entries)))
      → IsJudged (limits_by b) limit task entries (outcome.Limit States) False
  states_few lt few = (λ p. let many = p.many in few (many.0, (let m = many.1 in omega (arith, lt, m)), many.2, many.3), λ u. few u.1)
