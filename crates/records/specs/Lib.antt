pub mod Layout
pub mod Record
pub mod Lookups
pub mod Effect
pub mod Loss
pub mod Item
pub mod Models
