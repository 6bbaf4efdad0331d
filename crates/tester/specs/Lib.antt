pub mod Calls
pub mod Stands
pub mod Claims
pub mod Replies
pub mod Performed
pub mod Rounds
