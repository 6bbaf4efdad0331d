pub mod Tallies
pub mod Tested
pub mod Paths
pub mod Keeping
pub mod Listed
