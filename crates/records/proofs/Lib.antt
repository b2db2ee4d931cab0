pub mod Passes
pub mod Layouts
pub mod Contents
pub mod Bounds
pub mod Lookups
pub mod Examples
