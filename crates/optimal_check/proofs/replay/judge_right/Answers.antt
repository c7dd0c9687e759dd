use Rattle.std.proofs.Common.{List, sym, subst, arith}
use Rattle.optimal_check.proofs.VerdictLemmas.{steps_few}
use Rattle.optimal_check.specs.Verdicts.{ShowsRightPlan}
use Rattle.replay_check.specs.Heads.{reported_limits}
use Rattle.transcript_model.specs.Outcomes.{IsTrueOutcome}
use Rattle.transcript_model.specs.declared.entry.Call.{Call}
use Rattle.optimal_check.proofs.replay.judge_right.Goals as goal

pub judge_cost-requires-clause-shown : goal.judge_cost-requires-clause-shown
judge_cost-requires-clause-shown c =
    let task = c.args.task.now in
    let right = c.args.right.now in
    let r = right.report in
    let plan = subst (IsTrueOutcome (reported_limits task r) task r.entries) c.in-Plan.is c.requires.right.true in
    let few = steps_few r c.in-Plan.steps c.in-Plan.cost c.in-Plan.from c.in-Plan.is in
    subst (λ (ss : List Call). ShowsRightPlan task right ss c.in-Plan.cost) (sym c.as_slice.ensures) (record {
      known = c.requires.known;
      valid = (plan.steps, plan.valid);
      lines = c.requires.lines;
      few = omega (arith, few, c.requires.lines);
    })
