pub mod Learning
pub mod Knowledge
pub mod Numbers
pub mod Outputs
pub mod Tuples
