use Rattle.std.proofs.Common.{sym}
use Rattle.plan_reader.proofs.LinesLemmas.{first_line, last_line}
use Rattle.plan_reader.proofs.line.cut_line.Goals as goal

pub returns-in-Some : goal.returns-in-Some
returns-in-Some c =
    first_line c.args.text.now c.in-Some.end c.first_bytes.result.now c.behind.result.now
    (sym c.in-Some.ensures.place) c.in-Some.ensures.within c.first_bytes.ensures c.behind.ensures

pub returns-in-None : goal.returns-in-None
returns-in-None c = last_line c.args.text.now (sym c.in-None.ensures.place)
