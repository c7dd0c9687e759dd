-- The plan of a right report is one over what its answers certify.
use Rattle.std.proofs.Common.{◌≡◌, ℕ, List, sym, subst}
use Rattle.shown_steps.specs.Plans.{IsPlan}
use Rattle.task_model.specs.Known.{Known}
use Rattle.task_model.specs.declared.task.Task.{Task}
use Rattle.transcript_model.specs.Outcomes.{IsTrueOutcome}
use Rattle.transcript_model.specs.declared.entry.Call.{Call}
use Rattle.transcript_model.specs.declared.outcome.Origin.{Origin}
use Rattle.transcript_model.specs.declared.outcome.Outcome.TheVariants.{Plan}
use Rattle.replay_check.specs.Heads.{reported_limits}
use Rattle.replay_check.specs.Judgings.{HasRight}
use Rattle.replay_check.specs.declared.verdict.RightReport.{RightReport}

pub right_plan : (task : Task) (bytes : List ℕ) (r : RightReport) (calls : List Call) (cost : ℕ) (from : List Origin)
    → HasRight task bytes r → r.report.outcome ≡ Plan calls cost from → IsPlan task r.facts.known calls cost
right_plan task bytes r calls cost from has is =
    let claim = subst (IsTrueOutcome (reported_limits task r.report) task r.report.entries) is has.right.true in
    subst (λ (known : Known). IsPlan task known calls cost) (sym has.known)
    (record { steps = claim.steps; shown = claim.shown; valid = claim.valid })
