pub mod Arguments
pub mod Bounds
pub mod Shown
