pub mod Counting
pub mod Registers
