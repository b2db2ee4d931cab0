pub mod Follow
pub mod Models
