use Rattle.std.proofs.Common.{◌≡◌, ◌≤◌, ◌+◌, ◌++◌, length, vec_capacity}
use Rattle.std.specs.Vec.Iter.{into_iter_items}
use Rattle.session_core.specs.Slots.{answers_of}
use Rattle.session_core.proofs.round.put_answers.Given as goal

-- with the answers of the cells that are left, all are there, and there is room for them
abbrev pub invariant-loop-cell : goal.invariant-loop-cell
invariant-loop-cell l =
    (goal.iterator-loop-cell).can_next l.cell-iterator × (goal.iterator-loop-cell).is_finite l.cell-iterator
    × (l.entries.items ++ answers_of (into_iter_items l.cell-iterator) ≡ l.initial.entries.items ++ answers_of l.fn.cells.items)
    × (length l.entries.items + length (into_iter_items l.cell-iterator) ≤ vec_capacity l.entries)
