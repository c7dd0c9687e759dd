use Rattle.std.proofs.Common.{rules, arith, ◌≡◌, position, drop, Some, None}
use Rattle.std.specs.List.{position_or_len}
use Rattle.gen_lines.specs.Reply.{is_space}
use Rattle.gen_lines.proofs.FieldLemmas.{other, fields_none, first_field}
use Rattle.gen_lines.proofs.fields.field_from.Goals as goal

pub overflow_add-end : goal.overflow_add-end
overflow_add-end c =
    let line = c.args.line.now in
    let some : position other (drop c.args.from line) ≡ Some c.in-Some.skipped = search rules in
    let run : c.run_of.result ≡ position_or_len is_space (drop c.in-Some.skipped (drop c.args.from line)) = search rules in
    let first = first_field line c.args.from c.in-Some.skipped c.run_of.result some run in
    omega (arith, first.within)

pub returns : goal.returns
returns c =
    let line = c.args.line.now in
    let some : position other (drop c.args.from line) ≡ Some c.in-Some.skipped = search rules in
    let run : c.run_of.result ≡ position_or_len is_space (drop c.in-Some.skipped (drop c.args.from line)) = search rules in
    first_field line c.args.from c.in-Some.skipped c.run_of.result some run

pub returns-in_default : goal.returns-in_default
returns-in_default c =
    let none : position other (drop c.args.from c.args.line.now) ≡ None = search rules in
    fields_none (drop c.args.from c.args.line.now) none
