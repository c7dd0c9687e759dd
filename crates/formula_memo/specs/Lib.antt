pub mod Laws
pub mod Remembered
pub mod Rests
pub mod Scenes
pub mod Tries
