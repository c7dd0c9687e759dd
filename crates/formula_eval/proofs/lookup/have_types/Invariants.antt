use Rattle.std.proofs.Common.{◌≡◌, length, drop}
use Rattle.task_model.specs.Truth.{have_types as types_fit}
use Rattle.formula_eval.proofs.lookup.have_types.Given as goal

-- what is left to see decides, and the lists are as long
abbrev pub invariant-loop-place : goal.invariant-loop-place
invariant-loop-place g l =
    (types_fit (g.L.Look.known l.look) (drop l.place l.objects) (drop l.place l.sorts)
    ≡ types_fit (g.L.Look.known l.look) l.objects l.sorts)
    × (length l.objects ≡ length l.sorts)
