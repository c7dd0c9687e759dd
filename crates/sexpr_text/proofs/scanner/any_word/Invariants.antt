use Rattle.std.proofs.Common.{◌≡◌, ◌++◌, drop}
use Rattle.sexpr_text.specs.Scanning.{folded_word}
use Rattle.sexpr_text.proofs.scanner.any_word.Given as goal

-- The letters so far are those that stand before the bytes that are left.
abbrev pub invariant-loop-byte : goal.invariant-loop-byte
invariant-loop-byte l = folded_word l.rest ≡ l.letters.items ++ folded_word (drop l.byte-index l.rest)
