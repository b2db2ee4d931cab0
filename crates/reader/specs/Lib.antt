pub mod Step
pub mod Ask
pub mod Reads
pub mod Numbers
pub mod Models
