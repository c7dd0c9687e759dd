use Rattle.std.proofs.Common.{rules, ◌≡◌, true, false, subst}
use Rattle.std.specs.Char.{is_ascii_digit}
use Rattle.std.specs.List.{list_all}
use Rattle.lemmas.proofs.Digits.{digits_are_text}
use Rattle.report_reader.specs.Splits.{has_needless_zero}
use Rattle.report_reader.proofs.NumberFieldLemmas.{no_needless_zero, all_digits, written, unparsed}
use Rattle.report_reader.proofs.numbers.number_in.Goals as goal

pub returns-then-has_needless_zero : goal.returns-then-has_needless_zero
returns-then-has_needless_zero c = λ n lt is.
    let zeros : has_needless_zero c.args.field.now ≡ true = search rules in
    let none = subst (λ ds. has_needless_zero ds ≡ false) is (no_needless_zero n lt) in
    absurd (cc)

pub returns-then-not-are_digits : goal.returns-then-not-are_digits
returns-then-not-are_digits c = λ n lt is.
    let strange : list_all is_ascii_digit c.args.field.now ≡ false = search rules in
    let digits = subst (λ ds. list_all is_ascii_digit ds ≡ true) is (all_digits n lt) in
    absurd (cc)

pub returns-in_default : goal.returns-in_default
returns-in_default c = λ n lt is.
    let digits : list_all is_ascii_digit c.args.field.now ≡ true = search rules in
    absurd (c.in_default.ensures.cases.0 (digits_are_text c.args.field.now digits))

pub returns-in_default-parse : goal.returns-in_default-parse
returns-in_default-parse c =
    unparsed c.args.field.now c.in-Ok.text.now c.in_default-parse.field-0 c.parse.result c.in-Ok.ensures.cases.0 c.parse.ensures.value.0
    c.in_default-parse.is

pub returns : goal.returns
returns c =
    let digits : list_all is_ascii_digit c.args.field.now ≡ true = search rules in
    let no_zero : has_needless_zero c.args.field.now ≡ false = search rules in
    written c.args.field.now c.in-Ok.text.now c.in-Ok-parse.number c.parse.result c.in-Ok.ensures.cases.0 no_zero digits
    c.parse.ensures.value.0 c.in-Ok-parse.is
