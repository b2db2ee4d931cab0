pub mod Slots
pub mod Tally
