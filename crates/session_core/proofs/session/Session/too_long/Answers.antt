use Rattle.std.proofs.Common.{sym, subst}
use Rattle.session_core.proofs.SessionLemmas.{failure_kept}
use Rattle.session_core.specs.Session.{IsSession}
use Rattle.session_core.specs.Shown.{shown_session}
use Rattle.session_core.proofs.session.Session.too_long.Goals as goal

pub returns-clause-kept : goal.returns-clause-kept
returns-clause-kept c = λ task h. failure_kept task (shown_session c.self.inside) (subst (IsSession task) (sym c.self.view_is) h)
