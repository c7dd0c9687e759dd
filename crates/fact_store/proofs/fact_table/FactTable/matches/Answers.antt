use Rattle.std.proofs.Common.{not, refl, arith}
use Rattle.std.proofs.lemmas.List.Filters.{length-filter_both}
use Rattle.fact_store.specs.Tables.{has_key}
use Rattle.fact_store.specs.declared.table.Group.TheVariants.{AtomsAt}
use Rattle.fact_store.proofs.fact_table.FactTable.matches.Goals as goal

pub returns-in-None-clause-few : goal.returns-in-None-clause-few
returns-in-None-clause-few c =
    let passes = has_key (AtomsAt c.args.place) (c.args.pred, c.place.result) in
    let all = length-filter_both passes (λ f. not (passes f)) (λ _. refl) c.as_slice-facts.result.now in
    omega (arith, c.count_with.ensures, all)
