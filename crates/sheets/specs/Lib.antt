pub mod Sheet
pub mod Spelled
