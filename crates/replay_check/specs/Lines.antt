-- The lines of a report, from 1, and which of two breaches is told.
use Rattle.std.specs.Prelude.{◌≡◌, ◌⊎◌, ℕ, ◌+◌, ◌<◌, length}
use Rattle.std.specs.List.{flat_map}
use Rattle.legal_report.specs.Lines.{line_behind_pools}
use Rattle.report_text.specs.Texts.{entry_lines}
use Rattle.transcript_model.specs.declared.report.Report.{Report}
use Rattle.replay_check.specs.Kinds.{breach_number}
use Rattle.replay_check.specs.declared.verdict.BreachKind.{BreachKind}

-- the first line of the outcome
abbrev pub outcome_line : Report → ℕ
outcome_line r = line_behind_pools r + length (flat_map entry_lines r.entries)

-- Of two breaches the one in the earlier line is told, and in one line the one of the smaller kind.
abbrev pub Precedes : ℕ → BreachKind → ℕ → BreachKind → Type 0
Precedes line kind other than =
    (line < other) ⊎ ((line ≡ other) × (breach_number kind < breach_number than))
