use Rattle.std.proofs.Common.{◌≡◌, drop, slice_get}
use Rattle.fact_store.specs.Tables.{facts_with}
use Rattle.fact_store.proofs.scan.nth_with.Given as goal

-- what is sought stands among what is left
abbrev pub invariant-loop-fact : goal.invariant-loop-fact
invariant-loop-fact l =
    slice_get (facts_with l.group l.key l.facts) l.number
    ≡ slice_get (facts_with l.group l.key (drop l.fact-index l.facts)) l.left
