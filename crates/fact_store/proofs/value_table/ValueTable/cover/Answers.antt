use Rattle.std.proofs.Common.{◌∙◌, ap, sym, slice_get}
use Rattle.fact_store.proofs.ScanLemmas.{read_at}
use Rattle.fact_store.proofs.LeastLemmas.{least_more}
use Rattle.fact_store.proofs.value_table.ValueTable.cover.Goals as goal

pub loop-value-preserved : goal.loop-value-preserved
loop-value-preserved c = record {
  values = c.loop-value.invariant.values;
  least = least_more c.loop-value.self-inside.values.keys c.loop-value.self-inside.least c.put.new.least c.loop-value.self-inside.done
      c.in-Some.value.now c.loop-value.invariant.least
      (ap (λ vs. slice_get vs c.loop-value.self-inside.done) (sym c.as_slice.ensures.keys)
      ∙ read_at c.as_slice.result.now c.loop-value.self-inside.done c.in-Some.value.now c.in-Some.ensures.lookup.3.0
      c.in-Some.ensures.lookup.3.1) c.in-Ok.ensures.ok;
}
