use Rattle.std.proofs.Common.{refl}
use Rattle.report_text.proofs.PrintsLemmas.{prints_last}
use Rattle.report_text.proofs.write_entry.put_tuple.Goals as goal

pub returns-clause-told : goal.returns-clause-told
returns-clause-told g c =
    prints_last c.put_field.result (g.O.Sink.taken c.args.out.now) (g.O.Sink.taken c.put_names.new.out)
    (g.O.Sink.taken c.put_field.new.out) _ _ _ (refl) c.in_ok-put_names.ensures.told c.put_field.ensures.told
