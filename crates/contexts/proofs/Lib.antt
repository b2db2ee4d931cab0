pub mod Contexts
pub mod Examples
