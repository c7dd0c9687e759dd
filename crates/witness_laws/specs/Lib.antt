pub mod Fetch
pub mod Texts
pub mod Level
pub mod Laws
pub mod Refusals
