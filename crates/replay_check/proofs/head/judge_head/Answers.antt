use Rattle.std.proofs.Common.{◌≡◌, ◌<◌, length, take, true, rules, tests, subst, slice_get, IfSome, List, false}
use Rattle.transcript_model.specs.declared.head.PoolLine.{PoolLine}
use Rattle.replay_check.specs.Heads.{AreFitPoolLines, are_fit_limits, is_fit_pool}
use Rattle.replay_check.proofs.HeadsLemmas.{first_wrong}
use Rattle.replay_check.proofs.head.judge_head.Goals as goal

pub returns-in-Err : goal.returns-in-Err
returns-in-Err c =
    let task = c.args.task.now in
    let r = c.args.report.now in
    let place = c.in-Err.place in
    let limits : are_fit_limits r ≡ true = search (rules, tests) in
    let wrong = rw c.in-Err.is at c.in_ok-workers.ensures.wrong in
    let there = rw c.in-Err.is at c.in_ok-workers.ensures.there in
    let pools = c.as_slice-pools.ensures in
    first_wrong task r place limits (subst (λ (ps : List PoolLine). AreFitPoolLines task (take place ps)) pools wrong.0)
    (subst (λ (ps : List PoolLine). place < length ps) pools there)
    (subst (λ (ps : List PoolLine). IfSome (slice_get ps place) (λ pool. is_fit_pool task (take place ps) pool ≡ false)) pools wrong.1)
