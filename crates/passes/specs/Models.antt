pub mod Codes
pub mod Follow
pub mod Item
pub mod Known
pub mod Last
pub mod Memory
