use Rattle.std.proofs.Common.{◌∙◌, arith, ap, length, subst, sym}
use Rattle.grid_world.specs.Sessions.{KeepsGiven, SessionState}
use Rattle.grid_world.proofs.SessionsLemmas.{heard_stays}
use Rattle.grid_world.proofs.talk.Session.send.Goals as goal

pub returns-clause-given : goal.returns-clause-given
returns-clause-given c =
    let i = c.self.inside in
    let bytes = c.args.bytes.now in
    let more = c.in_ok-heard.ensures i.written.items (sym (c.deref.ensures.value ∙ c.self.invariant.0)) in
    let stays =
    heard_stays i.grid i.written.items bytes _ _ i.given more (omega (arith, c.self.invariant.2, ap length c.self.invariant.1)) in
    subst (λ (s : SessionState). KeepsGiven s bytes) c.self.view_is stays
