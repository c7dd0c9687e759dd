use Rattle.std.proofs.Common.{◌++◌, ◌∷◌, [], codes}
use Rattle.std.specs.Fmt.{decimal}
use Rattle.report_text.specs.Texts.{call_fields, fields_text}
use Rattle.report_text.proofs.PrintsLemmas.{prints_cut, prints_last}
use Rattle.report_text.proofs.TextsLemmas.{line_more}
use Rattle.report_text.proofs.write_entry.put_use.Goals as goal

pub returns-in_err-put_begun-clause-told : goal.returns-in_err-put_begun-clause-told
returns-in_err-put_begun-clause-told g c =
    prints_cut c.from_residual.result c.in_err-put_begun.field-0.0 (g.O.Sink.taken c.args.out.now) (g.O.Sink.taken c.put_begun.new.out) _
    (fields_text (call_fields c.args.one.now.call) ++ 10 ∷ []) _
    (line_more (codes "use") (decimal c.args.one.now.number) (call_fields c.args.one.now.call)) c.from_residual.ensures.1
    c.in_err-put_begun.ensures.told

pub returns-clause-told : goal.returns-clause-told
returns-clause-told g c =
    prints_last c.put_call.result (g.O.Sink.taken c.args.out.now) (g.O.Sink.taken c.put_begun.new.out) (g.O.Sink.taken c.put_call.new.out) _
    _ _ (line_more (codes "use") (decimal c.args.one.now.number) (call_fields c.args.one.now.call)) c.in_ok-put_begun.ensures.told
    c.put_call.ensures.told
