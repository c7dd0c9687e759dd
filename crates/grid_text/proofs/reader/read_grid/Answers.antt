use Rattle.std.proofs.Common.{rules, arith, ◌≡◌, ◌∷◌, [], ◌∙◌, sym, refl, false}
use Rattle.std.proofs.lemmas.Result.{err_from_is_err_and}
use Rattle.grid_text.specs.Lines.{is_bare, lines_in}
use Rattle.grid_text.proofs.GridsLemmas.{blames, grid_next, nothing_of, reads, right_more}
use Rattle.grid_text.proofs.LinesLemmas.{TakesLine, some_lines, takes_line}
use Rattle.grid_text.proofs.reader.read_grid.Goals as goal

pub lines-init : goal.lines-init
lines-init c = record {
  lines = refl;
  count = omega arith;
  right = λ k h. absurd (omega arith);
  says = c.empty-grid.ensures ∙ sym nothing_of;
}

pub lines-preserved : goal.lines-preserved
lines-preserved c =
    let lines = lines_in c.args.bytes.now in
    let k = c.lines.before in
    let line = c.first_line.result.0.now in
    let after = c.in-Some.after.now in
    let i = c.lines.invariant in
    let cut : lines_in c.lines.rest.now ≡ line ∷ lines_in after = rw c.in-Some.is at c.first_line.ensures.line in
    let t : TakesLine lines k line (lines_in after) = takes_line lines k line (lines_in after) (sym i.lines ∙ cut) in
    let shorter = rw c.in-Some.is at c.first_line.ensures.shorter in
    record {
      lines = sym t.back;
      count = omega (arith, i.count, shorter);
      right = right_more c.args.bytes.now line k (lines_in after) c.lines.grid i.right t i.says c.in_ok-take_line.ensures.right;
      says = grid_next lines k line (lines_in after) c.lines.grid c.take_line.new.self t i.says c.in_ok-take_line.ensures.grid;
    }

pub returns-in_default-clause-grid : goal.returns-in_default-clause-grid
returns-in_default-clause-grid c =
    let lines = lines_in c.args.bytes.now in
    let k = c.lines.before in
    let line = c.first_line.result.0.now in
    let i = c.lines.invariant in
    let some : is_bare c.args.bytes.now ≡ false = search rules in
    let cut : lines_in c.lines.rest.now ≡ line ∷ [] = rw c.in_default.is at c.first_line.ensures.line in
    let t : TakesLine lines k line [] = takes_line lines k line [] (sym i.lines ∙ cut) in
    reads c.args.bytes.now line k c.lines.grid c.take_line.new.self some i.right t i.says c.in_ok-take_line.ensures.right
    c.in_ok-take_line.ensures.grid

pub returns-in_err-take_line-clause-fault : goal.returns-in_err-take_line-clause-fault
returns-in_err-take_line-clause-fault c =
    let bytes = c.args.bytes.now in
    let k = c.lines.before in
    let line = c.first_line.result.0.now in
    let i = c.lines.invariant in
    let some : is_bare bytes ≡ false = search rules in
    let cut = some_lines c.first_line.result.1 (λ r. r.now) c.lines.rest.now line c.first_line.ensures.line in
    let t : TakesLine (lines_in bytes) k line cut.0 = takes_line (lines_in bytes) k line cut.0 (sym i.lines ∙ cut.1) in
    let p = err_from_is_err_and c.from_residual.result c.from_residual.ensures.1 in
    rw (p.1, p.2)
    (blames bytes line k cut.0 c.lines.grid some i.right t i.says c.in_err-take_line.field-0.0 c.in_err-take_line.ensures.fault)
