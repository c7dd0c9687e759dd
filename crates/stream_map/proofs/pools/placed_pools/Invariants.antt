use Rattle.std.proofs.Common.{◌≡◌, ◌+◌, ◌≤◌, ◌++◌, map, sum_by, false}
use Rattle.std.specs.List.{list_any}
use Rattle.std.specs.Vec.Iter.{into_iter_items}
use Rattle.stream_map.specs.Children.{numbered_pools, plain}
use Rattle.stream_map.specs.Faults.{has_wrong_number, names_unknown, own_workers}
use Rattle.stream_map.specs.Spelled.{shown_pool_text}
use Rattle.stream_map.proofs.pools.placed_pools.Given as goal

-- with the pools of the texts that are left, all are there
abbrev pub invariant-loop-text : goal.invariant-loop-text
invariant-loop-text l =
    (goal.iterator-loop-text).can_next l.text-iterator × (goal.iterator-loop-text).is_finite l.text-iterator × record {
      pools : map plain l.pools.items ++ numbered_pools l.names l.next (map shown_pool_text (into_iter_items l.text-iterator))
          ≡ numbered_pools l.names 0 (map shown_pool_text l.fn.texts.items);
      known : list_any (names_unknown l.names) (map shown_pool_text (into_iter_items l.text-iterator))
          ≡ list_any (names_unknown l.names) (map shown_pool_text l.fn.texts.items);
      numbers : list_any has_wrong_number (map shown_pool_text (into_iter_items l.text-iterator)) ≡ false;
      workers : l.next + sum_by own_workers (map shown_pool_text (into_iter_items l.text-iterator)) ≤ 16;
    }
