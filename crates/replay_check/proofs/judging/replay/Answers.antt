use Rattle.std.proofs.Common.{◌∙◌, ap, sym, subst}
use Rattle.replay_check.specs.Judgings.{verdict_of}
use Rattle.replay_check.specs.Verdicts.{IsVerdict}
use Rattle.replay_check.proofs.judging.replay.Goals as goal

pub returns : goal.returns
returns c =
    subst (IsVerdict c.args.limit c.args.task.now c.args.bytes.now)
    (sym (c.verdict.ensures ∙ ap verdict_of (c.deref.ensures ∙ c.in_ok-judged.ensures.ok))) c.in_ok-replay_whole.ensures.verdict
