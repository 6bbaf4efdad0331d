pub mod Outcomes
pub mod Ended
pub mod Solved
pub mod Chess
pub mod Othello
pub mod Verdicts
