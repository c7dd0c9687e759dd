use Rattle.std.proofs.Common.{◌≡◌, None, Some, sym, subst}
use Rattle.fact_store.specs.Tables.{CoverPlaces}
use Rattle.fact_store.specs.declared.table.Group.TheVariants.{Objects}
use Rattle.fact_store.proofs.fact_table.FactTable.new.Goals as goal

pub invariant_of-result : goal.invariant_of-result
invariant_of-result c = record {
  objects = c.new-2.ensures Objects c.with_hasher.result.keys;
  atoms_at = subst (CoverPlaces c.with_hasher.result.keys)
      (sym c.new-3.ensures.items) (λ place table at. let none : None ≡ Some table = at in absurd (cc));
}
