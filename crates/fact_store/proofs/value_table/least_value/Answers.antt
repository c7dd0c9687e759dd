use Rattle.std.proofs.Common.{ap, sym, ◌∙◌, ◌++◌, ◌∷◌, [], Some, take, append_assoc}
use Rattle.std.proofs.lemmas.List.{take_more}
use Rattle.fact_store.specs.Least.{lesser_of}
use Rattle.fact_store.proofs.LeastLemmas.{value_hit, value_miss}
use Rattle.fact_store.proofs.value_table.least_value.Goals as goal
use Rattle.fact_store.proofs.value_table.least_value.Goals.{then-is_value_of, else-is_value_of}
use Rattle.task_model.specs.Known.{value_of}

pub loop-v-preserved : goal.loop-v-preserved
loop-v-preserved c = λ before is.
    let front = before ++ take c.loop-v.v-index c.args.values.now in
    let next = ap (λ xs. value_of (before ++ xs) c.args.func c.args.args.now)
    (take_more c.args.values.now c.loop-v.v-index c.v-item.result c.loop-v-test.true
    ∙ ap (λ v. take c.loop-v.v-index c.args.values.now ++ v ∷ []) (sym c.v-item.is))
    ∙ ap (λ xs. value_of xs c.args.func c.args.args.now)
    (sym (append_assoc before (take c.loop-v.v-index c.args.values.now) (c.v-item.result ∷ []))) in
    elim c.if-is_value_of.branch [
      | then-is_value_of w ↦
          w.least-is ∙ ap Some (w.lesser.ensures ∙ ap (λ o. lesser_of o c.v-item.result.value) (c.loop-v.invariant before is))
          ∙ sym (value_hit c.args.func c.args.args.now front c.v-item.result (sym c.is_value_of.ensures ∙ w.if-is_value_of.true))
          ∙ sym next
      | else-is_value_of w ↦
          w.least-is ∙ c.loop-v.invariant before is
          ∙ sym (value_miss c.args.func c.args.args.now front c.v-item.result (sym c.is_value_of.ensures ∙ w.if-is_value_of.false))
          ∙ sym next
    ]
