pub mod Encoded
pub mod Models
