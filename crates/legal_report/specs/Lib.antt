pub mod Laws
pub mod Lines
pub mod Reports
pub mod Talks
pub mod Transcripts
pub mod Walks
