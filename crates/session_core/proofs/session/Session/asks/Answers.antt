use Rattle.std.proofs.Common.{◌≡◌, ◌∙◌, length, arith}
use Rattle.session_core.proofs.session.Session.asks.Goals as goal

pub overflow_cast-result : goal.overflow_cast-result
overflow_cast-result c =
    let long : c.len.result ≡ length c.self.inside.knowledge.asked.items = c.len.ensures ∙ c.self.inside.knowledge.asked.ok.0 in
    omega (arith, long, c.self.invariant.few, c.self.invariant.calls)
