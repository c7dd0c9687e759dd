use Rattle.std.proofs.Common.{◌≡◌, ◌++◌, drop}
use Rattle.std.specs.Option.{option_map}
use Rattle.dream_asks.specs.Progress.{all_stand}
use Rattle.dream_asks.proofs.gone.Gone.become_real.Given as goal

-- these objects stand for the first inputs, and the others are still to be looked at
abbrev pub invariant-loop-object : goal.invariant-loop-object
invariant-loop-object l =
    all_stand l.self l.fn.instance.inputs
    ≡ option_map (λ rest. l.inputs ++ rest) (all_stand l.self (drop l.object-index l.fn.instance.inputs))
