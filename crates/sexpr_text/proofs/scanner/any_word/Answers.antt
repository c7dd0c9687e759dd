use Rattle.std.proofs.Common.{ap, ◌∙◌, ◌++◌, ◌∷◌, []}
use Rattle.sexpr_text.proofs.TokensLemmas.{letter_next}
use Rattle.sexpr_text.proofs.scanner.any_word.Goals as goal

pub loop-byte-preserved : goal.loop-byte-preserved
loop-byte-preserved c =
    letter_next c.args.rest.now c.loop-byte.letters.items c.push.new.self.items c.loop-byte.byte-index
    c.is_letter.result c.loop-byte-test.true c.is_letter.ensures c.if-not-is_letter.false c.loop-byte.invariant
    (c.in_ok-push.ensures.ok ∙ ap (λ b. c.loop-byte.letters.items ++ b ∷ []) c.folded.ensures)
