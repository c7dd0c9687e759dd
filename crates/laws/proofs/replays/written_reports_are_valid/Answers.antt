use Rattle.laws.proofs.WrittenLemmas.{written_valid}
use Rattle.laws.proofs.replays.written_reports_are_valid.Goals as goal

pub returns : goal.returns
returns c = λ limit task head entries o v fit can run le is.
    written_valid task head entries o fit can run limit v le is
