pub mod Limits
pub mod Tree
pub mod States
pub mod Declines
pub mod Rules
pub mod Places
pub mod Paths
