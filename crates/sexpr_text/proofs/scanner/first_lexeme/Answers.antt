use Rattle.std.proofs.Common.{length, ap}
use Rattle.sexpr_text.proofs.TokensLemmas.{word_begins}
use Rattle.sexpr_text.proofs.scanner.first_lexeme.Goals as goal

pub returns-in_ok-word-in-Letter : goal.returns-in_ok-word-in-Letter
returns-in_ok-word-in-Letter c =
    word_begins c.args.rest.now c.in_ok-word-in-Letter.word (length c.bytes-length.result.now) c.requires.some c.in-Letter.ensures
    c.in_ok-word-in-Letter.ensures (ap length c.bytes-length.ensures)
