pub mod ConditionPartLemmas
pub mod ReadableLemmas
pub mod ListTestLemmas
pub mod WeightLemmas
