use Rattle.std.proofs.Common.{◌≡◌, drop, map}
use Rattle.std.specs.List.{list_any}
use Rattle.stream_map.specs.Faults.{has_wrong_number}
use Rattle.stream_map.specs.Spelled.{shown_pool_text}
use Rattle.stream_map.proofs.workers.has_wrong_numbers.Given as goal

-- the pools that were passed have right numbers
abbrev pub invariant-loop-pool : goal.invariant-loop-pool
invariant-loop-pool l =
    list_any has_wrong_number (map shown_pool_text l.pools)
    ≡ list_any has_wrong_number (map shown_pool_text (drop l.pool-index l.pools))
