pub mod Pools
pub mod Served
