use Rattle.std.proofs.Common.{arith}
use Rattle.report_reader.proofs.TuplesLemmas.{too_many, no_parts, no_wide}
use Rattle.report_reader.proofs.tuples.shape_of.Goals as goal

pub returns-then-bars : goal.returns-then-bars
returns-then-bars c =
    too_many c.args.version c.bars_of-bars.result c.args.fields.now c.bars_of-bars.ensures.bars (omega arith)

pub returns-then-many-bars-ne0 : goal.returns-then-many-bars-ne0
returns-then-many-bars-ne0 c =
    no_parts c.args.version c.bars_of-bars.result c.args.fields.now c.len.result c.bars_of-bars.ensures.bars c.len.ensures
    c.if-many-bars-ne0.true

pub returns-then-bars-gt0 : goal.returns-then-bars-gt0
returns-then-bars-gt0 c =
    no_wide c.args.version c.bars_of-bars.result c.args.fields.now c.len.result c.bars_of-bars.ensures.bars c.len.ensures
    c.if-many-bars-ne0.false c.if-width-eq0.true c.if-bars-gt0.true
