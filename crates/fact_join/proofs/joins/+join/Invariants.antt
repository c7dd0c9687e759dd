use Rattle.std.proofs.Common.{◌≤◌, ◌+◌, ◌*◌, length, take}
use Rattle.task_model.specs.Known.{objects_of, matches_of}
use Rattle.fact_join.proofs.AddingLemmas.{Among}
use Rattle.fact_join.proofs.AnswerLemmas.{IsAnswerAt}
use Rattle.fact_join.specs.Adding.{Adds}
use Rattle.fact_join.specs.Answers.{IsAnswerBy}
use Rattle.fact_join.specs.Partials.{free_slots}
use Rattle.fact_join.proofs.joins.+join.Given as goal

abbrev pub decreases-join : goal.decreases-join
decreases-join g l = 4 * (length l.atoms.now + free_slots l.partial.now) + 2

abbrev pub decreases-join_left : goal.decreases-join_left
decreases-join_left g l = 4 * (length l.atoms.now + free_slots l.partial.now) + 1

abbrev pub decreases-branch : goal.decreases-branch
decreases-branch g l = 4 * (length l.atoms.now + free_slots l.partial.now)

abbrev pub decreases-follow : goal.decreases-follow
decreases-follow g l = 4 * (length l.rest.now + free_slots l.partial.now) + 4

abbrev pub decreases-join_fact : goal.decreases-join_fact
decreases-join_fact g l = 4 * (length l.rest.now + free_slots l.partial.now) + 3

-- the answers with the objects that were passed are added
abbrev pub invariant-branch-loop-place : goal.invariant-branch-loop-place
invariant-branch-loop-place g l =
    Adds (Among (IsAnswerAt (g.L.Look.known l.query.look.now) l.query.sorts.now (g.W.Wanted.wants l.query.wanted.now) l.partial l.atoms
    l.slot) (take l.place (objects_of (g.L.Look.known l.query.look.now).facts l.sort))) l.initial.rows.items l.rows.items
    × (length l.rows.items ≤ l.query.most)

-- the answers by the facts that were passed are added
abbrev pub invariant-follow-loop-number : goal.invariant-follow-loop-number
invariant-follow-loop-number g l =
    Adds (Among (IsAnswerBy (g.L.Look.known l.query.look.now) l.query.sorts.now (g.W.Wanted.wants l.query.wanted.now) l.partial
    l.atom.terms.now l.rest) (take l.number (matches_of (g.L.Look.known l.query.look.now).facts l.atom.pred l.lead.place
    l.lead.object))) l.initial.rows.items l.rows.items
    × (length l.rows.items ≤ l.query.most)
