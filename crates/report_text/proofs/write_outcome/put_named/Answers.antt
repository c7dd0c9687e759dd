use Rattle.std.proofs.Common.{◌++◌, ◌∷◌, append_assoc, codes, sym}
use Rattle.std.specs.Fmt.{decimal}
use Rattle.report_text.proofs.PrintsLemmas.{appends_then, prints_cut, prints_last, prints_later}
use Rattle.report_text.proofs.write_outcome.put_named.Goals as goal

pub returns-in_err-put-clause-told : goal.returns-in_err-put-clause-told
returns-in_err-put-clause-told g c =
    let origin = c.args.origin.now in
    prints_cut c.from_residual.result c.in_err-put.field-0.0 (g.O.Sink.taken c.args.out.now) (g.O.Sink.taken c.put.new.out) _
    (32 ∷ origin.object ++ 32 ∷ decimal origin.number) _
    (append_assoc (codes "from") (32 ∷ origin.object) (32 ∷ decimal origin.number)) c.from_residual.ensures.1
    c.in_err-put.ensures.told

pub returns-in_err-put_field-clause-told : goal.returns-in_err-put_field-clause-told
returns-in_err-put_field-clause-told g c =
    prints_later c.from_residual-in_err-put_field.result c.in_err-put_field.field-0.0 (g.O.Sink.taken c.args.out.now)
    (g.O.Sink.taken c.put.new.out) (g.O.Sink.taken c.put_field.new.out) _ _ (32 ∷ decimal c.args.origin.now.number) _
    (λ i. (codes "from" ++ 32 ∷ sym c.bytes.ensures i) ++ 32 ∷ decimal c.args.origin.now.number)
    c.from_residual-in_err-put_field.ensures.1 c.in_ok-put.ensures.told c.in_err-put_field.ensures.told

pub returns-clause-told : goal.returns-clause-told
returns-clause-told g c =
    prints_last c.put_number.result (g.O.Sink.taken c.args.out.now) (g.O.Sink.taken c.put_field.new.out)
    (g.O.Sink.taken c.put_number.new.out) _ _ _
    (λ i. (codes "from" ++ 32 ∷ sym c.bytes.ensures i) ++ 32 ∷ decimal c.args.origin.now.number)
    (appends_then (g.O.Sink.taken c.args.out.now) (g.O.Sink.taken c.put.new.out)
    (g.O.Sink.taken c.put_field.new.out) _ _ c.in_ok-put.ensures.told c.in_ok-put_field.ensures.told) c.put_number.ensures.told
