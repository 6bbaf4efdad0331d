pub mod Squares
pub mod Tails
pub mod Rows
pub mod Meaning
pub mod Grammatical
