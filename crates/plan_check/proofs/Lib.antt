pub mod ReadableLemmas
pub mod CostLemmas
pub mod InitialLemmas
pub mod FaultsLemmas
