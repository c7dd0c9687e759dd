use Rattle.std.proofs.Common.{◌≡◌, ◌∷◌, ◌++◌, ◌∙◌, sym, ap, arith}
use Rattle.report_reader.specs.Tuples.{IsValue}
use Rattle.report_reader.proofs.TuplesLemmas.{value_wanting}
use Rattle.report_reader.proofs.tuples.take_values.Goals as goal

pub returns-then-not-is_value : goal.returns-then-not-is_value
returns-then-not-is_value c = λ own rest len all e.
    let taken = c.loop.invariant in
    let left : c.loop.fields ≡ c.in-Some.field.now ∷ c.next.new.self = c.in-Some.ensures in
    let not : ¬ (IsValue c.in-Some.field.now) = λ v. absurd (cc (v, c.is_value.ensures, c.if-not-is_value.true)) in
    value_wanting taken.own c.in-Some.field.now c.next.new.self c.args.fields.now own rest
    (ap (λ l. taken.own ++ l) (sym left) ∙ taken.fields) not (omega (arith, taken.many, len, c.loop-test.true)) all e
