use Rattle.std.proofs.Common.{arith, ◌≡◌, ◌*◌, ◌∙◌, refl, sym, drop, slice_range, length-set, true, false}
use Rattle.gen_lines.specs.Reply.{fields, joined_tuples, parted, is_value}
use Rattle.gen_lines.specs.Told.{Lies}
use Rattle.gen_lines.proofs.ReplyTupleLemmas.{Step}
use Rattle.gen_lines.proofs.ToldLemmas.{AreFirst, first_more}
use Rattle.gen_lines.proofs.spans.mark_values.Goals as goal

pub fields-preserved : goal.fields-preserved
fields-preserved c =
    let line = c.args.line.now in
    let bars = c.args.bars in
    let here = fields (drop c.fields.at line) in
    let text = slice_range line c.in-Some.field.start c.in-Some.field.end in
    let next = fields (drop c.in-Some.field.end line) in
    let all = joined_tuples (parted bars (fields (drop c.args.from line))) in
    let i = c.fields.invariant in
    let step : Step bars here text next false = record
    { first = c.in-Some.ensures.first; part = sym c.parts_here.ensures ∙ c.if-parts_here.false } in
    let so_far : AreFirst line all here bars (c.args.tuples * c.args.width) c.fields.places c.fields.count =
    record { room = i.room; valid = i.valid; same = i.same; lie = i.lie } in
    let valid : is_value text ≡ true = sym c.is_value.ensures ∙ c.if-not-is_value.false in
    let lies : Lies line (c.in-Some.field.start, c.in-Some.field.end) = (c.in-Some.ensures.ordered.1, c.in-Some.ensures.within) in
    let more = first_more line all here bars (c.args.tuples * c.args.width) c.fields.places c.fields.count text next
    (c.in-Some.field.start, c.in-Some.field.end) so_far step valid refl lies (omega (arith, i.long, c.requires.few)) in
    record {
      within = c.in-Some.ensures.within;
      long =
          length-set c.fields.places c.fields.count (c.in-Some.field.start, c.in-Some.field.end)
          ∙ i.long;
      room = more.room;
      valid = more.valid;
      same = more.same;
      lie = more.lie;
    }
