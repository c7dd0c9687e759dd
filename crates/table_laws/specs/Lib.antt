pub mod Rows
pub mod Declared
pub mod Changed
pub mod Under
pub mod Laws
