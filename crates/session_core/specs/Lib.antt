pub mod Events
pub mod Ready
pub mod Room
pub mod Heard
pub mod Session
pub mod Shown
pub mod Slots
pub mod State
