pub mod Table
pub mod Models
