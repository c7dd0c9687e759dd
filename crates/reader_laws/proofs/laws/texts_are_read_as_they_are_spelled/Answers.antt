use Rattle.sexpr_text.proofs.FaultsToldLemmas.{blamed}
use Rattle.sexpr_text.proofs.ReadingComplete.{only}
use Rattle.sexpr_text.proofs.ReadingSound.{found}
use Rattle.reader_laws.proofs.TextLemmas.{either_read, least_read}
use Rattle.reader_laws.proofs.laws.texts_are_read_as_they_are_spelled.Goals as goal

pub returns-clause-trees : goal.returns-clause-trees
returns-clause-trees c = λ bytes t. (λ read. found bytes t read, λ spelled. only bytes t spelled)

pub returns-clause-faults : goal.returns-clause-faults
returns-clause-faults c = λ bytes f. (λ read. blamed bytes f read, λ least. least_read bytes f least)

pub returns-clause-either : goal.returns-clause-either
returns-clause-either c = λ bytes. either_read bytes
