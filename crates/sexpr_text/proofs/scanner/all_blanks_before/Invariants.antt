use Rattle.std.proofs.Common.{◌≡◌, ℕ, ◌+◌, false, drop}
use Rattle.sexpr_text.specs.Tokens.{tokens}
use Rattle.sexpr_text.proofs.scanner.all_blanks_before.Given as goal

-- The bytes so far have no token. Those that follow stand in a comment or not.
abbrev pub invariant-loop-blanks : goal.invariant-loop-blanks
invariant-loop-blanks l =
    (place : ℕ)
    → tokens false place l.rest ≡ tokens l.in_comment (place + l.blanks) (drop l.blanks l.rest)
