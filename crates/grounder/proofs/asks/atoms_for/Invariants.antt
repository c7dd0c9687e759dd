use Rattle.std.proofs.Common.{◌≡◌, map, take, Some}
use Rattle.task_model.specs.Truth.{slots_of}
use Rattle.grounder.specs.Parts.{fluent_in}
use Rattle.grounder.proofs.asks.atoms_for.Given as goal

-- the atoms of the rows that were passed are there
abbrev pub invariant-loop-args : goal.invariant-loop-args
invariant-loop-args l =
    map Some l.atoms.items ≡ map (λ args. fluent_in l.domain (slots_of args) l.condition) (take l.args-index l.rows)
