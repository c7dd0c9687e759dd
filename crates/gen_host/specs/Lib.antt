pub mod Calls
pub mod Children
pub mod Members
