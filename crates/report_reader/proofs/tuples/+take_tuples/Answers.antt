use Rattle.std.proofs.Common.{false, subst, arith}
use Rattle.std.proofs.lemmas.Result.{IfOk-weaker}
use Rattle.report_reader.specs.Tuples.{HasTaken, TakesValues}
use Rattle.report_reader.proofs.TuplesLemmas.{no_values, no_bar, more_tuples}
use Rattle.report_reader.proofs.tuples.+take_tuples.Goals as goal

pub returns-then-not-branch : goal.returns-then-not-branch
returns-then-not-branch t c = λ own len all e.
    let none : TakesValues c.args.width false c.args.values.now.items c.take_values.new.values.items c.args.fields.now
    c.take_values.new.fields =
    subst (λ b. TakesValues c.args.width b c.args.values.now.items c.take_values.new.values.items c.args.fields.now
    c.take_values.new.fields) c.if-not-branch.true c.in_ok-take_values.ensures in
    no_values c.args.width c.args.bars c.args.fields.now own none len all e

pub returns-then-not-begin_with : goal.returns-then-not-begin_with
returns-then-not-begin_with t c = λ own len all e.
    let taken : HasTaken c.args.width c.args.values.now.items c.take_values.new.values.items c.args.fields.now c.take_values.new.fields =
    subst (λ b. TakesValues c.args.width b c.args.values.now.items c.take_values.new.values.items c.args.fields.now
    c.take_values.new.fields) c.if-not-branch.false c.in_ok-take_values.ensures in
    no_bar c.args.width c.args.bars _ _ c.args.fields.now _ own taken
    (λ zero. omega (arith, zero, c.if-bars-eq0.false)) c.if-not-begin_with.ensures len all e

pub returns : goal.returns
returns t c =
    let taken : HasTaken c.args.width c.args.values.now.items c.take_values.new.values.items c.args.fields.now c.take_values.new.fields =
    subst (λ b. TakesValues c.args.width b c.args.values.now.items c.take_values.new.values.items c.args.fields.now
    c.take_values.new.fields) c.if-not-branch.false c.in_ok-take_values.ensures in
    IfOk-weaker c.take_tuples.result _ _ (λ found later.
    more_tuples c.args.width c.args.bars found _ _ _ c.args.fields.now _ _ taken
    (λ zero. omega (arith, zero, c.if-bars-eq0.false)) c.if-not-begin_with.ensures later) c.take_tuples.ensures
