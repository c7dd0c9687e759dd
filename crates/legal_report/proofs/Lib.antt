pub mod LawsLemmas
pub mod LinesLemmas
pub mod OneFaultLemmas
pub mod TalksAnswerLemmas
pub mod TalksAskLemmas
mod ReportsLemmas
mod WalksLemmas
