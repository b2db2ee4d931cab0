pub mod Frames
pub mod Indexed
pub mod Settled
