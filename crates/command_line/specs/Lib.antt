pub mod Numbers
pub mod Apps
pub mod Words
pub mod Held
pub mod Shown
pub mod Ranges
pub mod Usage
