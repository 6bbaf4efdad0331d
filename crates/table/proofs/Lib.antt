pub mod Formed
pub mod Frames
pub mod Passes
