pub mod Cutting
pub mod Field
pub mod Laws
pub mod Lines
pub mod Reply
pub mod Request
pub mod Told
