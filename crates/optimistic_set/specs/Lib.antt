pub mod Dreamable
pub mod Drafts
pub mod Entries
pub mod Faults
pub mod Members
