use Rattle.std.proofs.Common.{◌≡◌, map, take}
use Rattle.instance_search.specs.Found.{pattern_of_query}
use Rattle.instance_search.proofs.search.domain_atoms.Given as goal

-- the atoms that were passed are there
abbrev pub invariant-loop-pattern : goal.invariant-loop-pattern
invariant-loop-pattern l = map pattern_of_query l.atoms.items ≡ take l.pattern-index l.pattern-items
