pub mod GridTasks
pub mod Problems
pub mod Laws
