use Rattle.std.proofs.Common.{arith, ◌∙◌, sym, ap, drop, slice_range, true, false, inl, inr}
use Rattle.gen_lines.specs.Reply.{fields, parted}
use Rattle.gen_lines.proofs.ReplyTupleLemmas.{Step, count_on, count_all, count_end, step_bar, step_short, step_full, step_other}
use Rattle.gen_lines.proofs.spans.count_tuples.Goals as goal

pub fields-init : goal.fields-init
fields-init c = record {
  within = c.requires;
  begun = omega arith;
  few = (omega arith, omega arith);
  count = count_all c.args.width c.args.bars (fields (drop c.args.from c.args.line.now));
}

pub returns-then-values-width : goal.returns-then-values-width
returns-then-values-width c =
    let line = c.args.line.now in
    let here = fields (drop c.fields.at line) in
    let text = slice_range line c.in-Some.field.start c.in-Some.field.end in
    let next = fields (drop c.in-Some.field.end line) in
    let step : Step c.args.bars here text next true = record
    { first = c.in-Some.ensures.first; part = sym c.parts_here.ensures ∙ c.if-parts_here.true } in
    sym (c.fields.invariant.count ∙ elim c.then-values-width.either [
      | inl short ↦ step_short c.args.width c.fields.tuples c.fields.values c.args.bars here text next step short
      | inr full ↦ step_full c.args.width c.fields.tuples c.fields.values c.args.bars here text next step full.1
    ])

pub fields-preserved-then-parts_here : goal.fields-preserved-then-parts_here
fields-preserved-then-parts_here c =
    let line = c.args.line.now in
    let here = fields (drop c.fields.at line) in
    let text = slice_range line c.in-Some.field.start c.in-Some.field.end in
    let next = fields (drop c.in-Some.field.end line) in
    let step : Step c.args.bars here text next true = record
    { first = c.in-Some.ensures.first; part = sym c.parts_here.ensures ∙ c.if-parts_here.true } in
    record {
      within = c.in-Some.ensures.within;
      begun = omega arith;
      few = (omega arith, omega arith);
      count =
          c.fields.invariant.count
          ∙ step_bar c.args.width c.fields.tuples c.fields.values c.args.bars here text next step c.if-values-width.false;
    }

pub fields-preserved : goal.fields-preserved
fields-preserved c =
    let line = c.args.line.now in
    let here = fields (drop c.fields.at line) in
    let text = slice_range line c.in-Some.field.start c.in-Some.field.end in
    let next = fields (drop c.in-Some.field.end line) in
    let step : Step c.args.bars here text next false = record
    { first = c.in-Some.ensures.first; part = sym c.parts_here.ensures ∙ c.if-parts_here.false } in
    record {
      within = c.in-Some.ensures.within;
      begun = omega arith;
      few = c.fields.invariant.few;
      count =
          c.fields.invariant.count
          ∙ step_other c.args.width c.fields.tuples c.fields.values c.args.bars here text next step;
    }

pub returns-then-values-width-3 : goal.returns-then-values-width-3
returns-then-values-width-3 c =
    let at_end = ap (λ given. count_on c.args.width c.fields.tuples c.fields.values (parted c.args.bars given)) c.in_default.ensures in
    sym (c.fields.invariant.count ∙ at_end
    ∙ count_end c.args.width c.fields.tuples c.fields.values c.args.bars c.if-values-width-3.true c.fields.invariant.few.1)
