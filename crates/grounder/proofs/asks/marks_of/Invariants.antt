use Rattle.std.proofs.Common.{◌≡◌, map, take}
use Rattle.std.specs.List.{list_any}
use Rattle.std.specs.Ordering.{eq_by_cmp}
use Rattle.task_model.specs.AtomOrder.{atom_cmp}
use Rattle.grounder.proofs.asks.marks_of.Given as goal

-- the atoms of the state that were passed have marks
abbrev pub invariant-loop-atom : goal.invariant-loop-atom
invariant-loop-atom l =
    l.marks.items ≡ map (λ a. list_any (eq_by_cmp atom_cmp a) (take l.atom-index l.atom-items)) l.numbered.keys
