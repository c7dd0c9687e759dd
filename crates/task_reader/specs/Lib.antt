pub mod Kinds
pub mod Refusals
pub mod Texts
pub mod Tasks
pub mod Fitness
pub mod Spelled
