use Rattle.std.proofs.Common.{subst}
use Rattle.report_text.specs.Places.{entries}
use Rattle.report_reader.specs.Body.{IsReportPart, part_lines}
use Rattle.report_reader.specs.Finding.{PartReads, Stops}
use Rattle.report_reader.proofs.BodyStopLemmas.{front_stop}
use Rattle.report_reader.proofs.body_reader.body_in.Goals as goal

pub returns : goal.returns
returns c =
    let v = c.args.version in
    let stops : Stops (entries v) c.loop-entries.lines c.part_in.new.lines =
    subst (λ f. PartReads (entries v) (IsReportPart v) part_lines f c.loop-entries.lines c.part_in.new.lines) c.in_default.is
    c.in_ok-part.ensures in
    front_stop v c.loop-entries.entries.items c.args.lines.now c.loop-entries.lines c.part_in.new.lines c.loop-entries.invariant stops
