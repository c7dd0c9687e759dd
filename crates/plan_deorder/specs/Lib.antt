pub mod Clashes
pub mod Laws
pub mod Listed
pub mod Occurring
pub mod Orders
pub mod Touches
