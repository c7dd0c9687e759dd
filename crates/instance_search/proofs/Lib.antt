pub mod FoundLemmas
pub mod InstanceOrderLemmas
pub mod ReadableLemmas
