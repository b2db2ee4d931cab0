pub mod Kept
pub mod Checking
