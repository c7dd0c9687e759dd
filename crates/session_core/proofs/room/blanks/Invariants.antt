use Rattle.std.proofs.Common.{◌≡◌, length}
use Rattle.session_core.proofs.room.blanks.Given as goal

abbrev pub invariant-loop : goal.invariant-loop
invariant-loop l = length l.all.items ≡ l.counter
