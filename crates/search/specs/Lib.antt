pub mod Backs
pub mod Plain
pub mod Search
pub mod Steps
pub mod Finishes
