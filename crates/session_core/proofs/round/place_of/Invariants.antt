use Rattle.std.proofs.Common.{◌≡◌, drop}
use Rattle.session_core.specs.Slots.{slot_of}
use Rattle.session_core.proofs.round.place_of.Given as goal

-- what is left decides
abbrev pub invariant-loop-place : goal.invariant-loop-place
invariant-loop-place l = slot_of (drop l.place l.cells) l.child ≡ slot_of l.cells l.child
