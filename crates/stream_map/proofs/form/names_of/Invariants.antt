use Rattle.std.proofs.Common.{◌≡◌, Some}
use Rattle.serde_json.specs.Find.{as_array}
use Rattle.serde_json.specs.View.{items_view, view}
use Rattle.stream_map.specs.Form.{name_in_data}
use Rattle.stream_map.proofs.FormLemmas.{Reads}
use Rattle.stream_map.proofs.form.names_of.Given as goal

-- the names so far are those of the values that were passed
abbrev pub invariant-loop-item : goal.invariant-loop-item
invariant-loop-item l = record {
  list : as_array (view l.fn.value) ≡ Some (items_view l.item-items);
  reads : Reads (λ v. name_in_data (view v)) l.item-items l.item-index l.names.items;
}
