use Rattle.std.proofs.Common.{sym, subst, rules, drop}
use Rattle.session_core.proofs.RoundWholeLemmas.{close_kept}
use Rattle.session_core.proofs.ReadyLemmas.{rest_ready}
use Rattle.session_core.specs.Ready.{AreReady}
use Rattle.session_core.specs.Session.{IsSession}
use Rattle.session_core.specs.State.{State}
use Rattle.session_core.proofs.session.Session.close_round.Goals as goal

pub returns-clause-after : goal.returns-clause-after
returns-clause-after c = search rules

pub returns-clause-kept : goal.returns-clause-kept
returns-clause-kept c =
    λ task h. subst (IsSession task) (sym (returns-clause-after c)) (close_kept task c.args.self.now c.requires.open c.requires.answered h)

pub returns-clause-rest : goal.returns-clause-rest
returns-clause-rest c =
    λ task dues count h front ready.
    subst (λ (t : State). AreReady task t.entries (drop count dues))
    (sym (returns-clause-after c)) (rest_ready task c.args.self.now c.requires.open c.requires.answered h dues count front ready)
