pub mod AnswersCellsLemmas
pub mod AnswersLemmas
pub mod AnswerLinesLemmas
pub mod CoversLemmas
pub mod PlacesLemmas
pub mod ServingLemmas
pub mod SessionsLemmas
pub mod WordsLemmas
