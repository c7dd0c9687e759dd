pub mod PartsLemmas
pub mod ListingLemmas
pub mod CandidatesLemmas
pub mod AsksLemmas
