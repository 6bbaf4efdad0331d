pub mod Men
pub mod Letters
pub mod Ranges
pub mod Commands
pub mod Lists
pub mod Look
