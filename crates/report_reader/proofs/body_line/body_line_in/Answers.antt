use Rattle.std.proofs.Common.{◌≡◌, ◌∷◌}
use Rattle.std.proofs.lemmas.Result.{IfOk-weaker}
use Rattle.report_reader.specs.Body.{spelled_word}
use Rattle.report_reader.specs.declared.body_word.Word.{Word}
use Rattle.report_reader.proofs.BodyWordLemmas.{no_word, of_word}
use Rattle.report_reader.proofs.body_line.body_line_in.Goals as goal

pub returns-in_default-word_of : goal.returns-in_default-word_of
returns-in_default-word_of c =
    let was : c.args.fields.now ≡ c.in-Some.field.now ∷ c.next.new.self = c.in-Some.ensures in
    let none : (w : Word) → ¬ (spelled_word w ≡ c.in-Some.field.now) = c.in_default-word_of.ensures in
    no_word c.args.version c.in-Some.field.now c.next.new.self c.args.fields.now was none

pub returns : goal.returns
returns c =
    let was : c.args.fields.now ≡ c.in-Some.field.now ∷ c.next.new.self = c.in-Some.ensures in
    let spells : spelled_word c.in-Some-word_of.word ≡ c.in-Some.field.now = c.in-Some-word_of.ensures in
    IfOk-weaker c.line_of_word.result _ _ (λ found finds.
    of_word c.args.version c.in-Some-word_of.word c.in-Some.field.now c.next.new.self c.args.fields.now found was spells finds)
    c.line_of_word.ensures
