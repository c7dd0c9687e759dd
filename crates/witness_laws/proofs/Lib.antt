pub mod StateLemmas
pub mod TranscriptLemmas
pub mod TreesLemmas
pub mod SpelledLemmas
pub mod PlanLemmas
pub mod LevelLemmas
pub mod RefusalsLemmas
