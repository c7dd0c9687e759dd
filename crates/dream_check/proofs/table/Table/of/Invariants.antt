use Rattle.std.proofs.Common.{◌≡◌, take}
use Rattle.dream_check.proofs.table.Table.of.Given as goal

-- the names so far
abbrev pub invariant-loop-name : goal.invariant-loop-name
invariant-loop-name l = l.placeholders ≡ take l.name-index l.names
