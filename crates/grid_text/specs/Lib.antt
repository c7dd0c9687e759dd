pub mod Entries
pub mod Files
pub mod Grids
pub mod Laws
pub mod Lines
pub mod Numbers
pub mod Rects
pub mod Tasks
