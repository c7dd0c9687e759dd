pub mod ClaimsLemmas
pub mod LinesLemmas
pub mod PlansLemmas
pub mod StepsLemmas
