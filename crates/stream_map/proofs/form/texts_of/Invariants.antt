use Rattle.std.proofs.Common.{◌≡◌, Some, map, string_bytes}
use Rattle.serde_json.specs.Find.{as_array, as_str}
use Rattle.serde_json.specs.View.{items_view, view}
use Rattle.stream_map.proofs.FormLemmas.{Reads}
use Rattle.stream_map.proofs.form.texts_of.Given as goal

-- the texts so far are those of the values that were passed
abbrev pub invariant-loop-item : goal.invariant-loop-item
invariant-loop-item l = record {
  list : as_array (view l.fn.value) ≡ Some (items_view l.item-items);
  reads : Reads (λ v. as_str (view v)) l.item-items l.item-index (map string_bytes l.texts.items);
}
