use Rattle.std.proofs.Common.{◌++◌, sym, ap, ◌∙◌}
use Rattle.std.specs.List.{flat_map}
use Rattle.lemmas.specs.Lists.{numbers_from}
use Rattle.plan_deorder.proofs.PairLemmas.{flat_map_push, numbers_next}
use Rattle.plan_deorder.specs.Clashes.{pairs_from}
use Rattle.plan_deorder.proofs.order.pairs_of.Goals as goal

pub loop-first-preserved : goal.loop-first-preserved
loop-first-preserved c =
    let f = pairs_from c.args.touched.now in
    let first = c.loop-first.first in
    c.in_ok-put_row.ensures ∙ ap (λ xs. xs ++ f first) c.loop-first.invariant
    ∙ sym (ap (flat_map f) (numbers_next first) ∙ flat_map_push f (numbers_from 0 first) first)
