use Rattle.legal_report.specs.Walks.{StandsAtEntry}
use Rattle.legal_report.proofs.walk.Walk.walk.Given as goal

-- the knowledge is that of the entries so far
abbrev pub invariant-loop-place : goal.invariant-loop-place
invariant-loop-place l = StandsAtEntry l.fn.self l.place l.knowledge
