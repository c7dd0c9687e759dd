use Rattle.std.proofs.Common.{rules, ◌≡◌, ◌∷◌, [], ◌∙◌, sym, true, false}
use Rattle.grid_text.specs.Lines.{is_passed_over, lines_in}
use Rattle.grid_text.proofs.LinesLemmas.{bare_last, bare_more, bare_some}
use Rattle.grid_text.proofs.lines.is_bare.Goals as goal

pub lines-preserved : goal.lines-preserved
lines-preserved c =
    let line : lines_in c.lines.rest.now ≡ c.first_line.result.0.now ∷ lines_in c.in-Some.after.now =
    rw c.in-Some.is at c.first_line.ensures.line in
    let passed : is_passed_over c.first_line.result.0.now ≡ true = search rules in
    c.lines.invariant ∙ bare_more c.lines.rest.now c.first_line.result.0.now c.in-Some.after.now line passed

pub returns-in-None : goal.returns-in-None
returns-in-None c =
    let line : lines_in c.lines.rest.now ≡ c.first_line.result.0.now ∷ [] = rw c.in-None.is at c.first_line.ensures.line in
    let passed : is_passed_over c.first_line.result.0.now ≡ true = search rules in
    sym (c.lines.invariant ∙ bare_last c.lines.rest.now c.first_line.result.0.now line passed)

pub returns-then-not-is_passed : goal.returns-then-not-is_passed
returns-then-not-is_passed c =
    let passed : is_passed_over c.first_line.result.0.now ≡ false = search rules in
    sym (c.lines.invariant
    ∙ bare_some c.first_line.result.1 (λ r. r.now) c.lines.rest.now c.first_line.result.0.now c.first_line.ensures.line passed)
