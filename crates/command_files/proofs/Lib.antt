pub mod InputsLemmas
pub mod MapsLemmas
