pub mod Limits
pub mod Header
pub mod Part
pub mod Models
