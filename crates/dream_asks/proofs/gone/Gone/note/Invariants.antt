use Rattle.std.proofs.Common.{◌+◌, take}
use Rattle.dream_asks.specs.Noting.{HasNoted, HaveSameAnswers}
use Rattle.dream_asks.proofs.gone.Gone.note.Given as goal

-- the first asks are noted, and for the others the entries that are left answer as all do
abbrev pub invariant-loop-place : goal.invariant-loop-place
invariant-loop-place l =
    HasNoted l.facts.known.names l.behind l.first (take l.place l.asks) l.fn.self l.self
    × HaveSameAnswers (l.first + l.place) l.left l.behind
