use Rattle.std.proofs.Common.{◌≡◌, ℕ, List, map, take, ◌||◌, ◌&&◌}
use Rattle.shown_plan.specs.Sources.{is_generated, is_among}
use Rattle.shown_plan.proofs.names.add_generated.Given as goal

abbrev pub invariant-loop-arg : goal.invariant-loop-arg
invariant-loop-arg l =
    (name : List ℕ)
    → is_among (map (λ n. n.now) l.names.keys) name
    ≡ (is_among (map (λ n. n.now) l.initial.names.keys) name || (is_generated name && is_among (take l.arg-index l.args) name))
