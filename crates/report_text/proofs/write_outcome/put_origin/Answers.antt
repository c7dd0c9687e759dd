use Rattle.std.proofs.Common.{◌++◌, ◌∷◌, [], codes}
use Rattle.std.specs.Fmt.{decimal}
use Rattle.std.specs.Prelude.{◌==◌, if◌then◌else◌}
use Rattle.report_text.specs.Texts.{fields_text}
use Rattle.report_text.proofs.PrintsLemmas.{prints_cut, prints_last}
use Rattle.report_text.proofs.TextsLemmas.{line_further}
use Rattle.report_text.proofs.write_outcome.put_origin.Goals as goal

pub returns-in_err-put_named-clause-told : goal.returns-in_err-put_named-clause-told
returns-in_err-put_named-clause-told g c =
    let origin = c.args.origin.now in
    let tuple = if c.args.version == 1 then [] else decimal origin.tuple ∷ [] in
    prints_cut c.from_residual.result c.in_err-put_named.field-0.0 (g.O.Sink.taken c.args.out.now) (g.O.Sink.taken c.put_named.new.out) _
    (fields_text tuple ++ 10 ∷ []) _ (line_further (codes "from") origin.object (decimal origin.number) tuple) c.from_residual.ensures.1
    c.in_err-put_named.ensures.told

pub returns-clause-told : goal.returns-clause-told
returns-clause-told g c =
    let origin = c.args.origin.now in
    prints_last c.put_tuple_number.result (g.O.Sink.taken c.args.out.now) (g.O.Sink.taken c.put_named.new.out)
    (g.O.Sink.taken c.put_tuple_number.new.out) _ _ _
    (line_further (codes "from") origin.object (decimal origin.number) (if c.args.version == 1 then [] else decimal origin.tuple ∷ []))
    c.in_ok-put_named.ensures.told c.put_tuple_number.ensures.told
