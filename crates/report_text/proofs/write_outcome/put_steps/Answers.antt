use Rattle.std.proofs.Common.{map, refl}
use Rattle.report_text.specs.Texts.{do_line, lines_text}
use Rattle.report_text.proofs.PrintsLemmas.{prints_cut, prints_last}
use Rattle.report_text.proofs.write_outcome.put_steps.Goals as goal

pub returns-in_err-put_numbered-clause-told : goal.returns-in_err-put_numbered-clause-told
returns-in_err-put_numbered-clause-told g c =
    prints_cut c.from_residual.result c.in_err-put_numbered.field-0.0 (g.O.Sink.taken c.args.out.now)
    (g.O.Sink.taken c.put_numbered.new.out) _ (lines_text (map do_line c.args.steps.now)) _ (refl) c.from_residual.ensures.1
    c.in_err-put_numbered.ensures.told

pub returns-clause-told : goal.returns-clause-told
returns-clause-told g c =
    prints_last c.put_calls.result (g.O.Sink.taken c.args.out.now) (g.O.Sink.taken c.put_numbered.new.out)
    (g.O.Sink.taken c.put_calls.new.out) _ _ _ (refl) c.in_ok-put_numbered.ensures.told c.put_calls.ensures.told
