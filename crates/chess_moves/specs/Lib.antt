pub mod Pawns
pub mod After
pub mod Moves
pub mod Legal
pub mod Count
pub mod Leaves
