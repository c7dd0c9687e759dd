pub mod Asks
pub mod Faults
pub mod Level
pub mod Notes
pub mod Tallies
