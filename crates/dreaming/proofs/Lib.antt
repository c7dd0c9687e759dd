pub mod PlacesLemmas
pub mod PartLemmas
mod FailsLemmas
pub mod WantedLemmas
pub mod KeptLemmas
mod TriedLemmas
pub mod ThinLemmas
pub mod AfterLemmas
pub mod DreamlessLemmas
mod OwnLemmas
