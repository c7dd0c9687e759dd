use Rattle.std.proofs.Common.{◌≡◌, ◌∷◌, None, subst}
use Rattle.std.specs.Fmt.{decimal}
use Rattle.report_text.specs.Forms.{AreTuples, IsNumber}
use Rattle.report_text.specs.Texts.{tuple_fields}
use Rattle.report_reader.specs.Finding.{Finds}
use Rattle.report_reader.specs.declared.tuples.Tuples.{Tuples}
use Rattle.report_reader.proofs.BodyWordLemmas.{no_got}
use Rattle.report_reader.proofs.body_line.got_in.Goals as goal

pub returns-in_default-2 : goal.returns-in_default-2
returns-in_default-2 c =
    let number : IsNumber c.in-Some.number × (decimal c.in-Some.number ∷ c.number.new.self ≡ c.args.fields.now) = c.in-Some.ensures in
    let none : Finds (λ (t : Tuples). AreTuples c.args.version t.tuples t.values)
    (λ (t : Tuples). tuple_fields t.tuples t.values) None c.number.new.self =
    subst (λ f. Finds (λ (t : Tuples). AreTuples c.args.version t.tuples t.values)
    (λ (t : Tuples). tuple_fields t.tuples t.values) f c.number.new.self) c.in_default-2.is c.in_ok-tuples.ensures in
    no_got c.args.version c.in-Some.number c.number.new.self c.args.fields.now number.1 none
