pub mod Probing
pub mod Frames
pub mod Stays
pub mod Sums
pub mod Tallied
pub mod Laws
