use Rattle.std.proofs.Common.{◌≡◌, ◌∙◌, ◌+◌, not, refl, ap, length, arith}
use Rattle.std.proofs.lemmas.List.{take_rest}
use Rattle.std.proofs.lemmas.List.Filters.{length-filter_both}
use Rattle.fact_store.specs.Tables.{facts_with, has_key}
use Rattle.fact_store.proofs.TablesLemmas.{counted}
use Rattle.fact_store.proofs.table.Table.count.Goals as goal

sum_is : (c : goal.After-count_with)
    → length c.places.result.now + c.count_with.result ≡ length (facts_with c.args.group c.args.key c.args.facts.now)
sum_is c =
    (λ i. length (c.places.ensures i)
    + (c.count_with.ensures
    ∙ ap (λ fs. length (facts_with c.args.group c.args.key fs)) (take_rest c.args.facts.now c.args.self.now.done)) i)
    ∙ counted c.args.group c.args.facts.now c.args.self.now c.requires c.args.key

pub overflow_add-result : goal.overflow_add-result
overflow_add-result c =
    let all = length-filter_both (has_key c.args.group c.args.key) (λ f. not (has_key c.args.group c.args.key f))
    (λ _. refl) c.args.facts.now in
    omega (arith, sum_is c, all)

pub returns-clause-count : goal.returns-clause-count
returns-clause-count c = sum_is c

pub returns-clause-few : goal.returns-clause-few
returns-clause-few c =
    let all = length-filter_both (has_key c.args.group c.args.key) (λ f. not (has_key c.args.group c.args.key f))
    (λ _. refl) c.args.facts.now in
    omega (arith, sum_is c, all)
