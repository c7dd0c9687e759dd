use Rattle.dream_check.proofs.DreamLinesLemmas.{dream_lines}
use Rattle.dream_check.proofs.laws.dreams_have_no_wrong_line.Goals as goal

pub returns : goal.returns
returns c = λ limits task before tried uses steps entries offset dream.
    dream_lines limits task before tried uses steps entries dream offset
