pub mod Write
pub mod Fits
pub mod Indexed
