pub mod DepthLemmas
pub mod MemoLemmas
pub mod TriesLemmas
