pub mod CertifiedLemmas
pub mod FitStreamLemmas
pub mod LearningLemmas
pub mod LearningTupleLemmas
pub mod KnowledgeLemmas
pub mod OutputsLemmas
pub mod TuplesLemmas
