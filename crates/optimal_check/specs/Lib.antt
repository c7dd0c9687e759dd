pub mod Least
pub mod Verdicts
