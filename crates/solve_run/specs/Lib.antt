pub mod Levels
pub mod Focusing
pub mod NextDreams
pub mod OnDesk
pub mod Batching
pub mod Skeletons
pub mod Adaptive
