pub mod Solvers
pub mod Pages
pub mod Attempts
pub mod Following
pub mod Shown
