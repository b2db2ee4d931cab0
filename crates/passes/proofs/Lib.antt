pub mod Codes
pub mod Known
pub mod Rooms
pub mod Places
pub mod Turns
pub mod Last
pub mod Memory
