use Rattle.std.proofs.Common.{◌≡◌, ℕ, true, List, Bor, take}
use Rattle.transcript_model.specs.Names.{generated}
use Rattle.transcript_model.specs.declared.entry.Entry.{Entry}
use Rattle.shown_plan.proofs.SourcesTableLemmas.{IsMidway}
use Rattle.shown_plan.proofs.sources.note_entry.Given as goal
use Rattle.shown_plan.specs.Sources.{AreSources, found_in, is_among}

abbrev pub invariant-loop-value : goal.invariant-loop-value
invariant-loop-value l =
    (names : List (List ℕ)) (before : List Entry) → AreSources (λ (k : Bor (List ℕ)). k.now) names before l.initial.sources
    → (value : List ℕ) → is_among names (generated value) ≡ true
    → IsMidway before l.entry (take l.value-index l.value-items) value (found_in (λ (k : Bor (List ℕ)). k.now) l.sources value)
