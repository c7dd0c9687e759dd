use Rattle.std.proofs.Common.{◌∙◌, sym, ap, subst}
use Rattle.pools.specs.Pools.{HaveWorkers, shares_of}
use Rattle.replay_check.proofs.HeadsBindLemmas.{limits_fit, pools_work}
use Rattle.replay_check.proofs.VerdictsHeadLemmas.{head_found}
use Rattle.replay_check.specs.Headed.{IsHeaded}
use Rattle.replay_check.specs.Judgings.{IsEnded}
use Rattle.replay_check.proofs.judging.judge.Goals as goal

pub returns-in-Breaks : goal.returns-in-Breaks
returns-in-Breaks c =
    let task = c.args.task.now in
    let r = c.args.report.now in
    let headed = subst (IsHeaded task r) c.in-Breaks.is c.in_ok-pools.ensures in
    subst (IsEnded c.args.limit task r) (sym c.invalid.ensures) (head_found c.args.limit task r c.in-Breaks.line headed)

pub judge_rest-requires-clause-bounds : goal.judge_rest-requires-clause-bounds
judge_rest-requires-clause-bounds c =
    let task = c.args.task.now in
    let r = c.args.report.now in
    let headed = subst (IsHeaded task r) c.in-Fits.is c.in_ok-pools.ensures in
    let limits = limits_fit r headed.0.limits in
    record {
      fit = c.requires.fit;
      workers = subst HaveWorkers (sym (ap shares_of c.as_slice.ensures.value ∙ headed.1)) (pools_work task r.pools headed.0.pools);
      calls = limits.0;
      some_states = limits.1;
      few_states = limits.2;
      some_limit = c.requires.some;
      few_limit = c.requires.few;
    }
