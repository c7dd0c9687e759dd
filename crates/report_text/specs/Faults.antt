-- Where a text is no report: its first line that isn't of a form at its place.
use Rattle.lemmas.specs.Lists.{lines_with_feeds}
use Rattle.std.specs.Prelude.{◌≡◌, ℕ, ◌+◌, ◌-◌, ◌<◌, ◌≤◌, List, ◌++◌, length, take}
use Rattle.std.specs.List.{slice_split}
use Rattle.gen_lines.specs.Lines.{is_feed, ended}
use Rattle.report_text.specs.Forms.{IsFormed}
use Rattle.report_text.specs.Texts.{text_of_report}
use Rattle.report_text.specs.declared.fault.ReportFault.{ReportFault}
use Rattle.report_text.specs.declared.fault.ReportFault.TheVariants.{At, Memory}
use Rattle.transcript_model.specs.declared.report.Report.{Report}

-- the lines that end with a line feed, each without it
abbrev pub whole_lines : List ℕ → List (List ℕ)
whole_lines bytes = ended (slice_split is_feed bytes)

-- the bytes are the text of a report of the stated forms
abbrev pub IsReport : List ℕ → Type 0
IsReport bytes = (r : Report) × IsFormed r × (text_of_report r ≡ bytes)

-- some report begins with these lines
abbrev pub BeginsReport : List (List ℕ) → Type 0
BeginsReport lines = (rest : List ℕ) × IsReport (lines_with_feeds lines ++ rest)

-- The first line, from 1, up to which no report begins so. Where a report begins with all lines that end with a line
-- feed but the bytes are none, this is the line behind them: a missing one, or one without a line feed.
pub record IsFirstFault (bytes : List ℕ) (n : ℕ) : Type 0 where
  pub some : 0 < n
  pub upto : n ≤ length (whole_lines bytes) + 1
  pub before : BeginsReport (take (n - 1) (whole_lines bytes))
  pub here : n ≤ length (whole_lines bytes) → ¬ (BeginsReport (take n (whole_lines bytes)))
  pub none : ¬ (IsReport bytes)

-- A fault at a line is of the first kind, that the text isn't of the form, and the line is the first such line.
abbrev pub IsTextFault : List ℕ → ReportFault → Type 0
IsTextFault bytes (At line kind) = (kind ≡ 1) × IsFirstFault bytes line
IsTextFault bytes Memory = Unit {0}
