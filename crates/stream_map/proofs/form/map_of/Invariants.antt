use Rattle.std.proofs.Common.{◌≡◌, map}
use Rattle.serde_json.specs.View.{view}
use Rattle.stream_map.specs.Form.{each_of, map_in_data, pool_of}
use Rattle.stream_map.specs.Spelled.{shown_pool_text}
use Rattle.stream_map.proofs.FormLemmas.{Reads}
use Rattle.stream_map.proofs.form.map_of.Given as goal

-- the pools so far are those of the values that were passed
abbrev pub invariant-loop-item : goal.invariant-loop-item
invariant-loop-item l = record {
  list : map_in_data (view l.fn.value) ≡ each_of (λ v. pool_of (view v)) l.item-items;
  reads : Reads (λ v. pool_of (view v)) l.item-items l.item-index (map shown_pool_text l.pools.items);
}
