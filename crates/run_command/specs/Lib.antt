pub mod Heads
pub mod Heard
pub mod Making
pub mod Runs
pub mod Solving
pub mod Works
