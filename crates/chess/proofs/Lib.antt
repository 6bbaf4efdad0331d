pub mod Same
pub mod Set
pub mod Mating
pub mod Positioned
pub mod FreshText
pub mod Following
pub mod Meaning
pub mod Holding
