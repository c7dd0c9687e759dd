use Rattle.std.proofs.Common.{◌≡◌, ap, sym, subst, ◌∙◌, ◌+◌, false, length, refl}
use Rattle.session_core.proofs.SessionLemmas.{mark_kept, as_before, all_again, entries_become}
use Rattle.session_core.specs.Session.{IsSession}
use Rattle.session_core.specs.Shown.{shown_session}
use Rattle.session_core.specs.State.{State}
use Rattle.session_core.proofs.session.Session.mark.Goals as goal

pub returns-then-is_learnt-clause-kept : goal.returns-then-is_learnt-clause-kept
returns-then-is_learnt-clause-kept c = λ task h.
    let s = shown_session c.self.inside in
    let closed : s.is_open ≡ false = ap (λ (t : State). t.is_open) c.self.view_is ∙ c.requires.closed in
    let whole : s.learnt ≡ length s.entries = c.if-is_learnt.true ∙ c.len.ensures ∙ c.self.inside.entries.ok.0 in
    subst (λ es. IsSession task (entries_become s es (s.learnt + 1))) (sym c.in_ok-push.ensures.items)
    (mark_kept task s c.args.entry (s.learnt + 1) closed c.requires.mark
    (all_again whole refl) (subst (IsSession task) (sym c.self.view_is) h))

pub returns-else-is_learnt-clause-kept : goal.returns-else-is_learnt-clause-kept
returns-else-is_learnt-clause-kept c = λ task h.
    let s = shown_session c.self.inside in
    let closed : s.is_open ≡ false = ap (λ (t : State). t.is_open) c.self.view_is ∙ c.requires.closed in
    subst (λ es. IsSession task (entries_become s es s.learnt)) (sym c.in_ok-push.ensures.items)
    (mark_kept task s c.args.entry s.learnt closed c.requires.mark (as_before refl) (subst (IsSession task) (sym c.self.view_is) h))
