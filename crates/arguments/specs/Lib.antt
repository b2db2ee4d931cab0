pub mod Argument
pub mod Loss
pub mod Models
