use Rattle.std.proofs.Common.{rules, ◌≡◌, ◌+◌, ◌++◌, ◌∷◌, [], Some, sym, subst}
use Rattle.report_text.specs.Forms.{IsFormedUse}
use Rattle.report_text.specs.Texts.{use_line}
use Rattle.report_reader.specs.Finding.{TakesMany, TakesLine}
use Rattle.report_reader.proofs.FindingLemmas.{many_next}
use Rattle.report_reader.proofs.body_reader.uses_in.Goals as goal

pub loop-preserved : goal.loop-preserved
loop-preserved c =
    let took : TakesLine IsFormedUse use_line (Some c.in-Some.one) c.loop.lines c.next_use.new.lines =
    subst (λ f. TakesLine IsFormedUse use_line f c.loop.lines c.next_use.new.lines) c.in-Some.is c.in_ok-one.ensures in
    let items : c.push.new.self.items ≡ c.loop.uses.items ++ c.in-Some.one ∷ [] = search rules in
    subst (λ xs. TakesMany IsFormedUse use_line (c.loop.counter + 1) xs c.args.lines.now c.next_use.new.lines) (sym items)
    (many_next IsFormedUse use_line c.loop.counter c.loop.uses.items c.in-Some.one c.args.lines.now c.loop.lines c.next_use.new.lines
    c.loop.invariant took)
