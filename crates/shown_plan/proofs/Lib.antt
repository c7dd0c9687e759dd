pub mod NameListLemmas
pub mod SourcesOrderLemmas
pub mod SourcesLemmas
pub mod SourcesYieldLemmas
pub mod SourcesTableLemmas
pub mod TupleLemmas
pub mod ShownLemmas
