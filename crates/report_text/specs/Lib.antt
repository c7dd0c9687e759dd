pub mod Prints
pub mod Texts
pub mod Forms
pub mod Faults
pub mod Places
pub mod Laws
