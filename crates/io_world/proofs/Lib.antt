pub mod GivenLemmas
pub mod LogsLemmas
pub mod RepliesLemmas
pub mod AppendsLemmas
pub mod TalksLemmas
pub mod TalksHeardLemmas
pub mod ProgressLemmas
