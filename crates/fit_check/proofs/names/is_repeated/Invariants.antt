use Rattle.std.proofs.Common.{◌≡◌, ◌+◌, drop, Some, slice_get}
use Rattle.std.specs.List.{list_any}
use Rattle.task_model.specs.Known.{same_numbers}
use Rattle.fit_check.proofs.names.is_repeated.Given as goal

-- what is left to see decides
abbrev pub invariant-loop-other : goal.invariant-loop-other
invariant-loop-other g l =
    (x : _) → slice_get l.items l.place ≡ Some x
    → list_any (λ y. same_numbers (g.T.Named.named x) (g.T.Named.named y)) (drop l.other l.items)
    ≡ list_any (λ y. same_numbers (g.T.Named.named x) (g.T.Named.named y)) (drop (l.place + 1) l.items)
