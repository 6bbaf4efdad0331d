pub mod Outcomes
pub mod Chess
pub mod Othello
pub mod Verdicts
