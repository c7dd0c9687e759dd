use Rattle.std.proofs.Common.{◌≡◌, drop}
use Rattle.name_tables.specs.Names.{has_name}
use Rattle.name_tables.proofs.scope.Scope.has.Given as goal

-- the variables so far have other names
abbrev pub invariant-loop-known : goal.invariant-loop-known
invariant-loop-known l = has_name l.name l.self ≡ has_name l.name (drop l.known-index l.self)
