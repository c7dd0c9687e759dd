pub mod Partials
pub mod Leads
pub mod Adding
pub mod Answers
pub mod Fronts
