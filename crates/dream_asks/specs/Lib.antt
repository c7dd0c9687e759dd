pub mod First
pub mod Progress
pub mod Next
pub mod Noting
pub mod Laws
