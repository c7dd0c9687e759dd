pub mod Body
pub mod Finding
pub mod Objects
pub mod Splits
pub mod Tuples
