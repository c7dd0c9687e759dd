pub mod Lines
pub mod Steps
pub mod Plans
pub mod Claims
