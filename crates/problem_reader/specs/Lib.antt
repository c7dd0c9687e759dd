pub mod Tables
pub mod Names
pub mod Values
pub mod Problems
pub mod Laws
pub mod Fitness
