use Rattle.std.proofs.Common.{rules, ◌≡◌, refl, true, false}
use Rattle.std.specs.Char.{is_ascii_digit}
use Rattle.std.specs.List.{list_all}
use Rattle.lemmas.proofs.Digits.{digits_are_text}
use Rattle.plan_reader.specs.Claims.{is_cost}
use Rattle.plan_reader.proofs.ClaimsLemmas.{not_cost}
use Rattle.plan_reader.proofs.claim.cost_in.Goals as goal

pub returns-in_default : goal.returns-in_default
returns-in_default c =
    let digits : list_all is_ascii_digit c.args.word.now ≡ true = search rules in
    absurd (c.in_default.ensures.cases.0 (digits_are_text c.args.word.now digits))

pub returns-in_default-parse : goal.returns-in_default-parse
returns-in_default-parse c =
    let digits : list_all is_ascii_digit c.args.word.now ≡ true = search rules in
    let none : is_cost c.args.word.now ≡ false =
    not_cost c.args.word.now c.in-Ok.text.now c.parse.result c.in_default-parse.field-0 c.in-Ok.ensures.cases.0 digits
    c.parse.ensures.value.0 c.in_default-parse.is in
    rw none refl
