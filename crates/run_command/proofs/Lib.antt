pub mod CausesLemmas
pub mod CountedLemmas
pub mod FailedLemmas
pub mod HeadsLemmas
pub mod MakingLemmas
pub mod PoolsLemmas
pub mod ReportsLemmas
pub mod RestartsLemmas
