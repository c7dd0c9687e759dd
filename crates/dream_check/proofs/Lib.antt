mod AfterKnowledgeLemmas
mod CallsLemmas
pub mod DreamLinesLemmas
mod JudgedLemmas
mod LinesLemmas
mod ListedLemmas
mod NeededLemmas
mod NoneLemmas
mod TableLemmas
mod UsesLemmas
