use Rattle.stream_map.specs.Faults.{stream_place}
use Rattle.stream_map.proofs.FormLemmas.{Reads}
use Rattle.stream_map.proofs.pools.places_of.Given as goal

-- the places so far are those of the names that were passed
abbrev pub invariant-loop-name : goal.invariant-loop-name
invariant-loop-name l = Reads (stream_place l.names) l.wanted l.name-index l.places.items
