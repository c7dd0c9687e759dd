pub mod Again
pub mod Broken
pub mod Laws
pub mod Tabled
