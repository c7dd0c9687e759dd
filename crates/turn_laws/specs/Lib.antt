pub mod DreamLaws
pub mod ModeLaws
pub mod Lazy
pub mod Modes
pub mod Answered
pub mod PlainLaws
pub mod Own
