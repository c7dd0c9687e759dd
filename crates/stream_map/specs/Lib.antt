pub mod Spelled
pub mod Form
pub mod Served
pub mod Faults
pub mod Children
pub mod Accepted
pub mod Laws
