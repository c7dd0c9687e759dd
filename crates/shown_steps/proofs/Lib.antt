pub mod NamedPlaceLemmas
pub mod PlansLemmas
pub mod RunsLemmas
