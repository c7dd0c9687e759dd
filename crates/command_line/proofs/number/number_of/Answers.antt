use Rattle.std.proofs.Common.{rules, ◌≡◌, refl, true, false}
use Rattle.std.specs.List.{list_all}
use Rattle.std.specs.Char.{is_ascii_digit}
use Rattle.command_line.specs.Numbers.{is_number}
use Rattle.command_line.proofs.NumbersLemmas.{not_number}
use Rattle.command_line.proofs.number.number_of.Goals as goal

pub returns-in_default-clause-value : goal.returns-in_default-clause-value
returns-in_default-clause-value c =
    let digits : list_all is_ascii_digit c.args.word.now ≡ true = search rules in
    let none : is_number c.args.least c.args.most c.args.word.now ≡ false =
    not_number c.args.least c.args.most c.args.word.now c.parse.result c.in_default.field-0 (search rules) digits
    c.parse.ensures.value.0 c.in_default.is in
    rw none refl
