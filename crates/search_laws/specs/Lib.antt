pub mod Run
pub mod Entered
pub mod Trial
pub mod Claims
pub mod Calls
pub mod Examples
pub mod Words
