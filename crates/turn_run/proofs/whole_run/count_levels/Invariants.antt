use Rattle.std.proofs.Common.{◌≡◌, count_by, take}
use Rattle.transcript_model.specs.Legal.{is_level}
use Rattle.turn_run.proofs.whole_run.count_levels.Given as goal

-- so many entries are counted
abbrev pub invariant-loop-entry : goal.invariant-loop-entry
invariant-loop-entry l = record { counted : l.levels ≡ count_by is_level (take l.entry-index l.entries) }
