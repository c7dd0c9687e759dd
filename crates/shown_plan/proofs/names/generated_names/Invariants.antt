use Rattle.std.proofs.Common.{◌≡◌, ℕ, List, map, take, ◌&&◌}
use Rattle.shown_plan.specs.Sources.{is_generated, is_among, stands_in}
use Rattle.shown_plan.proofs.names.generated_names.Given as goal

abbrev pub invariant-loop-call : goal.invariant-loop-call
invariant-loop-call l =
    (name : List ℕ) → is_among (map (λ n. n.now) l.names.keys) name ≡ (is_generated name && stands_in (take l.call-index l.calls) name)
