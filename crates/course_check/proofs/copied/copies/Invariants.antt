use Rattle.std.proofs.Common.{◌≡◌, take}
use Rattle.course_check.proofs.copied.copies.Given as goal

-- the first of them are there
abbrev pub invariant-loop-entry : goal.invariant-loop-entry
invariant-loop-entry l = l.copies.items ≡ take l.entry-index l.entries
