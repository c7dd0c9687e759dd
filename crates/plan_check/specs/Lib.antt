pub mod Faults
pub mod Readable
