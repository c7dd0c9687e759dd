use Rattle.gen_lines.proofs.FieldWordLemmas.{words_are_fields}
use Rattle.gen_lines.proofs.laws.words_are_fields.Goals as goal

pub returns : goal.returns
returns c = words_are_fields
