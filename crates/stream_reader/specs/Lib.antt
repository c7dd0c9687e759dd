pub mod Tables
pub mod Atoms
pub mod Names
pub mod Streams
pub mod Cycles
pub mod Reading
pub mod Fitness
