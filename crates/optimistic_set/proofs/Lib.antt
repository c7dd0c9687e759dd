pub mod PlaceholderLemmas
pub mod SupposingLemmas
pub mod DraftLemmas
mod PassLemmas
mod TriedLemmas
