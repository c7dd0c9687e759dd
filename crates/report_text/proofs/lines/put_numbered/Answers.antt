use Rattle.std.proofs.Common.{[]}
use Rattle.report_text.proofs.PrintsLemmas.{prints_last}
use Rattle.report_text.proofs.TextsLemmas.{line_more}
use Rattle.report_text.proofs.lines.put_numbered.Goals as goal

pub returns-clause-told : goal.returns-clause-told
returns-clause-told g c =
    prints_last c.put.result (g.O.Sink.taken c.args.out.now) (g.O.Sink.taken c.put_begun.new.out) (g.O.Sink.taken c.put.new.out) _ _ _
    (line_more c.args.word.now (g.N.Integer.text c.args.number) []) c.in_ok-put_begun.ensures.told c.put.ensures.told
