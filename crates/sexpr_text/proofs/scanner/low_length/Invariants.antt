use Rattle.std.proofs.Common.{◌≡◌, ◌++◌, drop, take}
use Rattle.sexpr_text.specs.Scanning.{folded_word}
use Rattle.sexpr_text.proofs.scanner.low_length.Given as goal

-- The bytes so far are letters of the word as they stand.
abbrev pub invariant-loop-length : goal.invariant-loop-length
invariant-loop-length l = folded_word l.rest ≡ take l.length l.rest ++ folded_word (drop l.length l.rest)
