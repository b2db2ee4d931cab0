pub mod Best
pub mod Counting
pub mod Registers
