pub mod Lawful
pub mod Keeping
pub mod Positions
