use Rattle.std.proofs.Common.{◌∙◌, subst}
use Rattle.std.specs.List.Sorted.{IsPermutation}
use Rattle.std.specs.Bool.{nat_eq}
use Rattle.std.proofs.lemmas.List.Filters.{dedup_is}
use Rattle.name_tables.proofs.GraphsSortLemmas.{sorted_ascending}
use Rattle.name_tables.proofs.graph.ascending.Goals as goal

pub returns : goal.returns
returns c =
    let sorted = c.sort_unstable.new.self.items in
    let numbers = c.args.numbers.now in
    let moved = subst (λ ns. IsPermutation ns sorted) c.in_ok-list.ensures.items c.sort_unstable.ensures.permutation in
    dedup_is nat_eq sorted c.dedup.new.self.items c.dedup.ensures.filtered
    ∙ sorted_ascending numbers sorted moved c.sort_unstable.ensures.sorted
