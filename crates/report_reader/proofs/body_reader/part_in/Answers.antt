use Rattle.std.proofs.Common.{◌∙◌, Some, ap, subst}
use Rattle.report_text.specs.Places.{dreaming}
use Rattle.report_reader.specs.Body.{IsBodyLine, body_line, IsDreamEntry, dream_lines}
use Rattle.report_reader.specs.Finding.{PartReads, Stops, TakesLine}
use Rattle.report_reader.specs.declared.body_line.BodyLine.TheVariants.{Dream}
use Rattle.report_reader.proofs.BodyStopLemmas.{dream_whole, dream_stop, body_stop}
use Rattle.report_reader.proofs.body_reader.part_in.Goals as goal

pub returns-in-Some : goal.returns-in-Some
returns-in-Some c =
    let d = c.in-Some-Dream in
    let taken : TakesLine (IsBodyLine c.args.version) body_line (Some (Dream d.uses d.steps)) c.args.lines.now c.next_line.new.lines =
    subst (λ f. TakesLine (IsBodyLine c.args.version) body_line f c.args.lines.now c.next_line.new.lines)
    (d.is ∙ ap Some d.field-0-is) c.in_ok-entry.ensures in
    let read : PartReads (dreaming c.args.version d.uses d.steps) (IsDreamEntry c.args.version d.uses d.steps) dream_lines
    (Some c.in-Some.dream) c.next_line.new.lines c.dream_in.new.lines =
    subst (λ f. PartReads (dreaming c.args.version d.uses d.steps)
    (IsDreamEntry c.args.version d.uses d.steps) dream_lines f c.next_line.new.lines c.dream_in.new.lines) c.in-Some.is
    (c.in_ok-dream-in-Some-Dream.ensures c.args.version) in
    dream_whole c.args.version d.uses d.steps c.in-Some.dream c.args.lines.now c.next_line.new.lines c.dream_in.new.lines read.0 read.1
    taken.1

pub returns-in-None-2 : goal.returns-in-None-2
returns-in-None-2 c =
    let d = c.in-Some-Dream in
    let taken : TakesLine (IsBodyLine c.args.version) body_line (Some (Dream d.uses d.steps)) c.args.lines.now c.next_line.new.lines =
    subst (λ f. TakesLine (IsBodyLine c.args.version) body_line f c.args.lines.now c.next_line.new.lines)
    (d.is ∙ ap Some d.field-0-is) c.in_ok-entry.ensures in
    let stops : Stops (dreaming c.args.version d.uses d.steps) c.next_line.new.lines c.dream_in.new.lines =
    subst (λ f. PartReads (dreaming c.args.version d.uses d.steps)
    (IsDreamEntry c.args.version d.uses d.steps) dream_lines f c.next_line.new.lines c.dream_in.new.lines) c.in-None-2.is
    (c.in_ok-dream-in-Some-Dream.ensures c.args.version) in
    dream_stop c.args.version d.uses d.steps c.args.lines.now c.next_line.new.lines c.dream_in.new.lines taken.0.0 taken.0.1 taken.1 stops

pub returns-in-None : goal.returns-in-None
returns-in-None c =
    body_stop c.args.version c.args.lines.now c.next_line.new.lines
    (subst (λ f. TakesLine (IsBodyLine c.args.version) body_line f c.args.lines.now c.next_line.new.lines) c.in-None.is
    c.in_ok-entry.ensures)
