pub mod Found
pub mod Readable
