pub mod Agendas
pub mod BatchAgendas
pub mod Courses
pub mod Laws
pub mod Moves
pub mod Places
pub mod Running
