pub mod Answer
pub mod Explored
pub mod Frontiers
pub mod Links
pub mod Outcome
pub mod Reach
pub mod Steady
