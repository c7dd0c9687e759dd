use Rattle.std.proofs.Common.{◌≡◌, ◌++◌, [], ◌∷◌, map, sym, ap, ◌∙◌}
use Rattle.lemmas.specs.Lists.{numbers_from}
use Rattle.plan_deorder.proofs.PairLemmas.{map_push, numbers_next}
use Rattle.plan_deorder.specs.Occurring.{below_in}
use Rattle.plan_deorder.proofs.predicates.edges_of.Goals as goal

pub loop-pred-preserved : goal.loop-pred-preserved
loop-pred-preserved c =
    let f = below_in c.args.domain.now.derived in
    let pred = c.loop-pred.pred in
    let is : c.in_ok-below.field-0 ≡ f pred = c.in_ok-below.ensures ∙ ap (λ xs. below_in xs pred) c.as_slice.ensures in
    c.in_ok-push.ensures.items ∙ (λ i. c.loop-pred.invariant i ++ is i ∷ [])
    ∙ sym (ap (map f) (numbers_next pred) ∙ map_push f (numbers_from 0 pred) pred)
