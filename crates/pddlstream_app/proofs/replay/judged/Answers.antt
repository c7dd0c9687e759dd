use Rattle.std.proofs.lemmas.Result.{IfOk-weaker}
use Rattle.pddlstream_app.proofs.replay.judged.Goals as goal

pub returns : goal.returns
returns c =
    IfOk-weaker c.said_of.result _ _ (λ s told. (c.in_ok-verdict.verdict, c.in_ok-verdict.ensures, told.0, told.1)) c.said_of.ensures
