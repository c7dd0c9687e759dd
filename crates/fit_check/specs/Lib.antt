pub mod Cycles
pub mod Edges
pub mod Filled
pub mod Tests
