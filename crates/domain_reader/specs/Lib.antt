pub mod Tables
pub mod Effects
pub mod Names
pub mod Cycles
pub mod Marks
pub mod Domains
