use Rattle.std.proofs.Common.{arith}
use Rattle.sexpr_text.proofs.TokensLemmas.{space_first}
use Rattle.sexpr_text.proofs.scanner.blanks_before.Goals as goal

pub returns-in-len2-up-clause-same : goal.returns-in-len2-up-clause-same
returns-in-len2-up-clause-same c =
    space_first c.args.rest.now (omega (arith, c.in-len2-up.len_at_least)) c.if-first-eq32.true
