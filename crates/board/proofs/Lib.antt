pub mod Bits
pub mod Table
pub mod EdgeRule
pub mod Walk
pub mod Listed
pub mod Same
