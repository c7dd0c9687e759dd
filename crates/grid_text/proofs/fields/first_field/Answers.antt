use Rattle.std.proofs.Common.{rules, ◌≡◌, ◌-◌, position, drop, take, length, Some, None, List, ℕ}
use Rattle.gen_lines.proofs.FieldLemmas.{other, fields_none}
use Rattle.grid_text.proofs.LinesFieldLemmas.{behind, first_of}
use Rattle.grid_text.proofs.fields.first_field.Goals as goal

pub returns : goal.returns
returns c =
    let line = c.args.line.now in
    let start = c.in_ok-start.start in
    let rest : List ℕ = take (length line - start) (drop start line) in
    let some : position other line ≡ Some start = search rules in
    first_of line rest start c.run_of-end.result some (behind line start) c.run_of-end.ensures.run

pub returns-in_err-start : goal.returns-in_err-start
returns-in_err-start c =
    let none : position other c.args.line.now ≡ None = search rules in
    rw c.from_residual.ensures (fields_none c.args.line.now none)
