pub mod AddingLemmas
pub mod FactLemmas
pub mod PartialLemmas
pub mod AnswerLemmas
pub mod FrontLemmas
pub mod FitLemmas
pub mod OrderLemmas
pub mod ListedLemmas
