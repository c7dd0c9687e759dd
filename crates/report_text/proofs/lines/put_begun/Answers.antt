use Rattle.std.proofs.Common.{refl}
use Rattle.report_text.proofs.PrintsLemmas.{prints_last}
use Rattle.report_text.proofs.lines.put_begun.Goals as goal

pub returns-clause-told : goal.returns-clause-told
returns-clause-told g c =
    prints_last c.put_number.result (g.O.Sink.taken c.args.out.now) (g.O.Sink.taken c.put.new.out)
    (g.O.Sink.taken c.put_number.new.out) _ _ _ (refl) c.in_ok-put.ensures.told c.put_number.ensures.told
