pub mod Codes
pub mod Files
pub mod Inputs
pub mod Outside
pub mod Paths
pub mod Pools
pub mod Stop
