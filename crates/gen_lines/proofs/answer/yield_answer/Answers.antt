use Rattle.std.proofs.Common.{◌∙◌, sym, drop}
use Rattle.gen_lines.specs.Reply.{fields, parted}
use Rattle.gen_lines.proofs.ReplyTupleLemmas.{counted}
use Rattle.gen_lines.proofs.answer.yield_answer.Goals as goal

pub mark_values-requires-clause-count : goal.mark_values-requires-clause-count
mark_values-requires-clause-count c =
    (counted c.args.width (parted c.args.bars (fields (drop c.args.from c.args.line.now))) c.in-Some.tuples
    (sym c.count_tuples.ensures ∙ c.in-Some.is)).values
