pub mod Lists
pub mod Single
pub mod Doing
pub mod Outright
pub mod Performing
pub mod History
pub mod Rounding
