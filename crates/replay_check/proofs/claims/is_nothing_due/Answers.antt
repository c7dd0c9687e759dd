use Rattle.std.proofs.Common.{◌∙◌, ◌==◌, length, ap}
use Rattle.replay_check.proofs.ClaimsLemmas.{more_due, not_none_more, nothing_due_is}
use Rattle.replay_check.proofs.claims.is_nothing_due.Goals as goal

pub returns-in-Some : goal.returns-in-Some
returns-in-Some c = λ entries h.
    nothing_due_is c.args.bounds.now.version c.args.bounds.now.task.now entries c.args.knowledge.now h c.in-Some.dues.items
    c.is_empty.result (rw c.in-Some.is at c.in_ok-dues.ensures.some)
    (c.is_empty.ensures ∙ ap (λ ds. length ds == 0) c.as_slice.ensures.value)

pub returns-in-None : goal.returns-in-None
returns-in-None c = λ entries h.
    let version = c.args.bounds.now.version in
    let task = c.args.bounds.now.task.now in
    let more = more_due version task entries c.args.knowledge.now h (rw c.in-None.is at c.in_ok-dues.ensures.none) in (
      λ yes. absurd (cc),
      λ none. absurd (not_none_more version task entries c.args.knowledge.now h more none),
    )
