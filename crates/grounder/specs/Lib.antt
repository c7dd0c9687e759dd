pub mod Applicable
pub mod Listing
pub mod Parts
pub mod Candidates
pub mod Asks
pub mod Finder
