pub mod Places
pub mod Codes
pub mod Room
pub mod Words
pub mod Declines
