pub use Rattle.report_text.specs.Faults
pub use Rattle.report_text.specs.Forms
pub use Rattle.report_text.specs.Texts
pub use Rattle.transcript_model.specs.Legal
pub use Rattle.transcript_model.specs.Outcomes
pub use Rattle.transcript_model.specs.Transcript
