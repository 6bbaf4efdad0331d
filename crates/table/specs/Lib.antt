pub mod Numbers
pub mod Pairs
pub mod Frames
pub mod Storings
pub mod Slots
pub mod Policies
pub mod Loans
pub mod Kept
