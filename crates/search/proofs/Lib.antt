pub mod Moves
pub mod Backs
pub mod Turns
pub mod Steps
