use Rattle.report_text.proofs.PrintsLemmas.{prints_written}
use Rattle.report_text.proofs.lines.put.Goals as goal

pub returns-clause-told : goal.returns-clause-told
returns-clause-told g c =
    prints_written c.write_all.result (g.O.Sink.taken c.args.out.now) (g.O.Sink.taken c.write_all.new.out) c.args.bytes.now
    c.write_all.ensures.all c.write_all.ensures.part
