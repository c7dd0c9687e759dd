pub mod Advancing
pub mod Reports
pub mod Turns
pub mod Asking
pub mod Deciding
pub mod Reporting
