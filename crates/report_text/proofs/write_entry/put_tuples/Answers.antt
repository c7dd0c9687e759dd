use Rattle.std.proofs.Common.{◌≡◌, ◌<◌, ◌≤◌, ◌+◌, ◌-◌, ◌*◌, ◌/◌, ◌∷◌, ◌++◌, ◌∙◌, arith, ap, codes, length, subst, sym}
use Rattle.std.proofs.lemmas.List.{length-drop}
use Rattle.lemmas.proofs.Numbers.{enough_next}
use Rattle.report_text.specs.Texts.{fields_text, tuple_fields, tuples_of}
use Rattle.report_text.proofs.PrintsLemmas.{IsBehind, behind_cut, behind_last, behind_next}
use Rattle.report_text.proofs.TextsLemmas.{tuples_step}
use Rattle.report_text.proofs.write_entry.put_tuples.Goals as goal

pub returns-in_err-put_tuple-clause-told : goal.returns-in_err-put_tuple-clause-told
returns-in_err-put_tuple-clause-told g c =
    let width = length c.args.values.now / c.from.result in
    let bars = c.loop-bars.bars in
    behind_cut c.from_residual.result c.in_err-put_tuple.field-0.0 (g.O.Sink.taken c.args.out.now) (g.O.Sink.taken c.loop-bars.out)
    (g.O.Sink.taken c.put_tuple.new.out) _ _ (fields_text (tuples_of width (bars - 1) c.split_at.result.1.now)) _
    (tuples_step width bars c.loop-bars.rest.now c.loop-bars-test.true
    ∙ (λ i. (fields_text (sym c.split_at.ensures.front i) ++ 32 ∷ codes "|")
    ++ fields_text (tuples_of width (bars - 1) (sym c.split_at.ensures.back i))))
    c.from_residual.ensures.1 c.loop-bars.invariant.told c.in_err-put_tuple.ensures.told

pub loop-bars-preserved : goal.loop-bars-preserved
loop-bars-preserved g c =
    let width = length c.args.values.now / c.from.result in
    let bars = c.loop-bars.bars in
    let some : 0 < bars = c.loop-bars-test.true in
    record {
      told = behind_next (g.O.Sink.taken c.args.out.now) (g.O.Sink.taken c.loop-bars.out)
          (g.O.Sink.taken c.put_tuple.new.out) _ _ (fields_text (tuples_of width (bars - 1) c.split_at.result.1.now)) _
          (tuples_step width bars c.loop-bars.rest.now some
          ∙ (λ i. (fields_text (sym c.split_at.ensures.front i) ++ 32 ∷ codes "|")
          ++ fields_text (tuples_of width (bars - 1) (sym c.split_at.ensures.back i))))
          c.in_ok-put_tuple.ensures.told c.loop-bars.invariant.told;
      enough = subst (λ n. width + (bars - 1) * width ≤ n)
          (sym (ap length c.split_at.ensures.back ∙ length-drop width c.loop-bars.rest.now))
          (enough_next width bars (length c.loop-bars.rest.now) some c.loop-bars.invariant.enough);
      sink = omega (arith, c.loop-bars.invariant.sink, c.in_ok-put_tuple.ensures.cause.later);
    }

pub returns-clause-told : goal.returns-clause-told
returns-clause-told g c =
    let width = length c.args.values.now / c.from.result in
    let none : c.loop-bars.bars ≡ 0 = omega (arith, c.loop-bars-test.false) in
    behind_last c.put_names-2.result (g.O.Sink.taken c.args.out.now) (g.O.Sink.taken c.loop-bars.out)
    (g.O.Sink.taken c.put_names-2.new.out) _ _
    (subst (λ n. IsBehind (g.O.Sink.taken c.args.out.now) (g.O.Sink.taken c.loop-bars.out)
    (fields_text (tuples_of width n c.loop-bars.rest.now)) (fields_text (tuple_fields c.args.tuples c.args.values.now))) none
    c.loop-bars.invariant.told)
    c.put_names-2.ensures.told
