pub mod Parts
pub mod Thinning
pub mod Answers
pub mod Laws
