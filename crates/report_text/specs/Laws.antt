-- Laws of the texts of reports. Each is the contract of a public function of `laws.rt`, and so is proved.
use Rattle.std.specs.Prelude.{◌≡◌}
use Rattle.report_text.specs.Forms.{IsFormed}
use Rattle.report_text.specs.Texts.{text_of_report}
use Rattle.transcript_model.specs.declared.report.Report.{Report}

-- The text of a report determines it: reports of the stated forms with equal texts are equal.
abbrev pub TextsDetermineReports : Type 0
TextsDetermineReports =
    (first second : Report) → IsFormed first → IsFormed second → text_of_report first ≡ text_of_report second
    → first ≡ second
