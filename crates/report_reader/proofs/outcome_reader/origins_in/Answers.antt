use Rattle.std.proofs.Common.{rules, ◌≡◌, ◌++◌, ◌∷◌, [], Some, sym, subst}
use Rattle.report_text.specs.Forms.{IsFormedOrigin}
use Rattle.report_text.specs.Texts.{from_line}
use Rattle.report_reader.specs.Finding.{TakesMany, TakesLine}
use Rattle.report_reader.proofs.FindingLemmas.{many_push}
use Rattle.std.proofs.Common.{length}
use Rattle.report_reader.proofs.outcome_reader.origins_in.Goals as goal

pub loop-origins-preserved : goal.loop-origins-preserved
loop-origins-preserved c =
    let F = IsFormedOrigin c.args.version in
    let L = from_line c.args.version in
    let took : TakesLine F L (Some c.in-Some.origin) c.loop-origins.lines c.next_origin.new.lines =
    subst (λ f. TakesLine F L f c.loop-origins.lines c.next_origin.new.lines) c.in-Some.is c.in_ok-origin.ensures in
    let items : c.push.new.self.items ≡ c.loop-origins.origins.items ++ c.in-Some.origin ∷ [] = search rules in
    subst (λ xs. TakesMany F L (length xs) xs c.args.lines.now c.next_origin.new.lines) (sym items)
    (many_push F L c.loop-origins.origins.items c.in-Some.origin c.args.lines.now c.loop-origins.lines c.next_origin.new.lines
    c.loop-origins.invariant took)
