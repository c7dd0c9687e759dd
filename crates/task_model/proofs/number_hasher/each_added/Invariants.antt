use Rattle.std.proofs.Common.{◌≡◌, take, fold}
use Rattle.task_model.specs.Hashes.{hashed_with}
use Rattle.task_model.proofs.number_hasher.each_added.Given as goal

-- The bytes so far are added.
abbrev pub invariant-loop-byte : goal.invariant-loop-byte
invariant-loop-byte l = l.hash ≡ fold hashed_with l.fn.state (take l.byte-index l.bytes)
