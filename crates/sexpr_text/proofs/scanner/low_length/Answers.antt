use Rattle.std.proofs.Common.{sym, ◌∙◌}
use Rattle.sexpr_text.proofs.TokensLemmas.{low_next}
use Rattle.sexpr_text.proofs.scanner.low_length.Goals as goal

pub loop-length-preserved : goal.loop-length-preserved
loop-length-preserved c =
    low_next c.args.rest.now c.loop-length.length c.loop-length-test.true (sym c.is_low.ensures ∙ c.if-not-is_low.false)
    c.loop-length.invariant
