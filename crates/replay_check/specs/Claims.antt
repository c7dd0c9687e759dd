-- What is found of an outcome's claim.
use Rattle.std.specs.Prelude.{ℕ, List, Bool, true, false}
use Rattle.task_model.specs.declared.task.Task.{Task}
use Rattle.transcript_model.specs.Outcomes.{IsTrueOutcome}
use Rattle.transcript_model.specs.Rounds.{Limits}
use Rattle.transcript_model.specs.declared.entry.Entry.{Entry}
use Rattle.transcript_model.specs.declared.outcome.Outcome.{Outcome}
use Rattle.replay_check.specs.Verdicts.{IsUndecidedClaim}
use Rattle.replay_check.specs.declared.claims.Claim.{Claim}
use Rattle.replay_check.specs.declared.claims.Claim.TheVariants.{True, False, Open}

abbrev pub IsJudged : Limits → ℕ → Task → List Entry → Outcome → Claim → Type 0
IsJudged limits limit task entries o True =
    IsTrueOutcome limits task entries o × ¬ (IsUndecidedClaim limit limits task entries o)
IsJudged limits limit task entries o False =
    ¬ (IsTrueOutcome limits task entries o) × ¬ (IsUndecidedClaim limit limits task entries o)
IsJudged limits limit task entries o Open = IsUndecidedClaim limit limits task entries o

-- that it is so, or that it isn't
abbrev pub claim_of : Bool → Claim
claim_of true = True
claim_of false = False
