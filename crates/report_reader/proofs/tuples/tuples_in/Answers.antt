use Rattle.std.proofs.Common.{◌≡◌, ◌+◌, [], false, sym, subst}
use Rattle.report_text.specs.Forms.{AreTuples}
use Rattle.report_text.specs.Texts.{tuple_fields}
use Rattle.report_reader.specs.Tuples.{HasShape, HasTuples, TakesTuples}
use Rattle.report_reader.proofs.TuplesLemmas.{no_tuples, tuples_found}
use Rattle.report_reader.proofs.tuples.tuples_in.Goals as goal

pub returns-then-not-branch : goal.returns-then-not-branch
returns-then-not-branch c = λ x formed is.
    let s = c.in-Some.field-0 in
    let shape : HasShape c.args.version s.bars s.width c.args.fields.now = c.in-Some.ensures in
    let none : TakesTuples s.width s.bars false c.in_ok-values.values.items c.take_tuples.new.values.items c.args.fields.now =
    subst (λ b. TakesTuples s.width s.bars b c.in_ok-values.values.items c.take_tuples.new.values.items c.args.fields.now)
    c.if-not-branch.true c.in_ok-take_tuples.ensures in
    no_tuples c.args.version s.bars s.width c.args.fields.now shape none x.tuples x.values formed is

pub returns : goal.returns
returns c =
    let s = c.in-Some.field-0 in
    let shape : HasShape c.args.version s.bars s.width c.args.fields.now = c.in-Some.ensures in
    let taken : HasTuples s.width s.bars c.in_ok-values.values.items c.take_tuples.new.values.items c.args.fields.now =
    subst (λ b. TakesTuples s.width s.bars b c.in_ok-values.values.items c.take_tuples.new.values.items c.args.fields.now)
    c.if-not-branch.false c.in_ok-take_tuples.ensures in
    let alone : HasTuples s.width s.bars [] c.take_tuples.new.values.items c.args.fields.now =
    subst (λ before. HasTuples s.width s.bars before c.take_tuples.new.values.items c.args.fields.now) c.in_ok-values.ensures.items taken
    in
    subst (λ values. AreTuples c.args.version (s.bars + 1) values × (tuple_fields (s.bars + 1) values ≡ c.args.fields.now))
    (sym c.from_vec.ensures) (tuples_found c.args.version s.bars s.width c.take_tuples.new.values.items c.args.fields.now shape alone)
