use Rattle.std.proofs.Common.{◌≡◌, None, drop}
use Rattle.name_tables.specs.Names.{last_place}
use Rattle.name_tables.proofs.scope.Scope.slot_of.Given as goal

-- what was found so far counts unless a later one is found
abbrev pub invariant-loop-slot : goal.invariant-loop-slot
invariant-loop-slot l =
    last_place 0 None l.name l.self ≡ last_place l.slot l.found l.name (drop l.slot l.self)
