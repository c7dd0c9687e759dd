use Rattle.std.proofs.Common.{◌≡◌, string_bytes}
use Rattle.std.specs.BTreeMap.{keys}
use Rattle.std.specs.List.{list_all}
use Rattle.stream_map.specs.Form.{is_pool_key}
use Rattle.stream_map.proofs.form.has_pool_keys.Given as goal

-- the keys that were passed are right
abbrev pub invariant-loop-key : goal.invariant-loop-key
invariant-loop-key l =
    list_all (λ key. is_pool_key (string_bytes key)) (keys l.members)
    ≡ list_all (λ key. is_pool_key (string_bytes key)) l.key-iterator
