pub mod MoveLemmas
pub mod ClashLemmas
pub mod StepLemmas
pub mod PlayLemmas
