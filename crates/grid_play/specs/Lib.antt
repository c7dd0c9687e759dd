pub mod Worlds
pub mod Faults
pub mod Replies
pub mod Clashes
pub mod Steps
pub mod Texts
