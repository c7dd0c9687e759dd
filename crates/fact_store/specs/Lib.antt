pub mod Growth
pub mod Least
pub mod Store
pub mod Tables
