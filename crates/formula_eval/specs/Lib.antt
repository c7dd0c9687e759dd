pub mod Judged
pub mod Readable
