use Rattle.std.proofs.Common.{◌≡◌, ◌+◌, ◌++◌, ◌∷◌, [], Bool, List, cond, sym, ap, ◌∙◌, arith}
use Rattle.std.proofs.lemmas.List.{append_assoc}
use Rattle.std.specs.Vec.{vec_items}
use Rattle.lemmas.proofs.ListTests.{get_some}
use Rattle.plan_deorder.proofs.PairLemmas.{row_next, row_to}
use Rattle.plan_deorder.specs.Clashes.{clash_at, clash_of, pair_of}
use Rattle.plan_deorder.specs.Orders.{Pair}
use Rattle.plan_deorder.proofs.order.put_row.Goals.{then-conflict+in_ok-push, else-conflict}
use Rattle.plan_deorder.proofs.order.put_row.Goals as goal

pub loop-second-preserved : goal.loop-second-preserved
loop-second-preserved c =
    let touched = c.args.touched.now in
    let i = c.args.first in
    let j = c.loop-second.second in
    let old = c.args.pairs.now.items in
    let first = get_some touched i c.index-touched-first.result c.requires.within c.index-touched-first.is in
    let second = get_some touched j c.index-touched-second.result c.loop-second-test.true c.index-touched-second.is in
    let clash : clash_at touched i j ≡ c.conflict.result = (λ k. clash_of (first k) (second k)) ∙ sym c.conflict.ensures in
    let row : row_to touched i (j + 1) ≡ cond (clash_at touched i j) (row_to touched i j ++ pair_of i j ∷ []) (row_to touched i j) =
    row_next touched i j c.loop-second.invariant.0 in
    let select : Bool → List Pair = λ b. cond b (row_to touched i j ++ pair_of i j ∷ []) (row_to touched i j) in (
      omega (arith, c.loop-second.invariant.0),
      elim c.if-conflict.branch [
        | then-conflict+in_ok-push w ↦
            ap vec_items w.pairs-is ∙ w.in_ok-push.ensures.items ∙ ap (λ xs. xs ++ pair_of i j ∷ []) c.loop-second.invariant.1
            ∙ append_assoc old (row_to touched i j) (pair_of i j ∷ [])
            ∙ ap (λ xs. old ++ xs) (sym (row ∙ ap select (clash ∙ w.if-conflict.true)))
        | else-conflict w ↦
            ap vec_items w.pairs-is ∙ c.loop-second.invariant.1
            ∙ ap (λ xs. old ++ xs) (sym (row ∙ ap select (clash ∙ w.if-conflict.false)))
      ],
    )
