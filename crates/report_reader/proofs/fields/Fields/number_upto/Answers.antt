use Rattle.std.proofs.Common.{◌≡◌, ◌<◌, ◌^◌, ◌∷◌, arith}
use Rattle.std.specs.Fmt.{decimal}
use Rattle.std.proofs.lemmas.Fmt.{decimal_injective}
use Rattle.report_reader.proofs.fields.Fields.number_upto.Goals as goal

pub returns-else-number-most : goal.returns-else-number-most
returns-else-number-most c = λ n rest le e.
    let was : c.args.self.now ≡ c.in_ok-next.field-0.now ∷ c.next.new.self = c.in_ok-next.ensures in
    let is : (c.in_ok-number.number < 2 ^ 64) × (decimal c.in_ok-number.number ≡ c.in_ok-next.field-0.now) = c.in_ok-number.ensures in
    let there : decimal c.in_ok-number.number ≡ decimal n = cc (is.1) in
    let same = decimal_injective c.in_ok-number.number n is.0 (omega arith) there in
    omega (arith, same)
