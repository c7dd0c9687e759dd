use Rattle.std.proofs.Common.{◌≡◌, ◌<◌, ◌^◌, arith}
use Rattle.std.specs.Fmt.{decimal}
use Rattle.std.proofs.lemmas.Bool.Decides.{nat_tests}
use Rattle.report_reader.proofs.NumberFieldLemmas.{place_test}
use Rattle.report_reader.proofs.objects.is_place.Goals as goal

pub returns-then-number-ge1 : goal.returns-then-number-ge1
returns-then-number-ge1 c =
    let is : (c.in-Some.number < 2 ^ 64) × (decimal c.in-Some.number ≡ c.args.field.now) = c.in-Some.ensures in
    place_test _ c.in-Some.number c.args.field.now is.0 is.1
    (λ e. (omega arith, grind (arith, nat_tests, e)), λ p. grind (arith, nat_tests, p.1))

pub returns-else-number-ge1 : goal.returns-else-number-ge1
returns-else-number-ge1 c =
    let is : (c.in-Some.number < 2 ^ 64) × (decimal c.in-Some.number ≡ c.args.field.now) = c.in-Some.ensures in
    place_test _ c.in-Some.number c.args.field.now is.0 is.1
    (λ e. (grind (arith, nat_tests, e), omega arith), λ p. absurd (omega (arith, p.0)))
