use Rattle.std.proofs.Common.{rules, ◌≡◌, ◌∙◌, Some, None, slice_get}
use Rattle.name_tables.specs.Graphs.{with_numbers}
use Rattle.name_tables.proofs.GraphsLemmas.{explored_all, explored_first, explored_more}
use Rattle.name_tables.proofs.graph.reached_from.Goals as goal

pub loop-done-init : goal.loop-done-init
loop-done-init c =
    explored_first c.args.edges.now c.args.start c.add_numbers.new.seen.keys
    (c.in_ok-add_numbers.ensures ∙ (λ i. with_numbers (c.new-seen.ensures.empty i) (c.next_of.ensures i)))

pub returns-in_default : goal.returns-in_default
returns-in_default c =
    let none : slice_get c.loop-done.seen.keys c.loop-done.done ≡ None = search rules in
    explored_all c.args.edges.now c.args.start c.loop-done.seen.keys c.loop-done.done c.loop-done.invariant none

pub loop-done-preserved : goal.loop-done-preserved
loop-done-preserved c =
    let at : slice_get c.loop-done.seen.keys c.loop-done.done ≡ Some c.in-Some.number = search rules in
    explored_more c.args.edges.now c.args.start c.loop-done.seen.keys c.add_numbers-in-loop-done.new.seen.keys c.loop-done.done
    c.in-Some.number c.loop-done.invariant at
    (c.in_ok-add_numbers-2.ensures ∙ (λ i. with_numbers c.loop-done.seen.keys (c.next_of-in-loop-done.ensures i)))
