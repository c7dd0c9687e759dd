pub mod AnswersLemmas
pub mod EntriesLemmas
pub mod FirstLemmas
pub mod FromLemmas
pub mod NextLemmas
pub mod NotingLemmas
pub mod ProgressLemmas
pub mod StayLemmas
