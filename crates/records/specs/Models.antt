pub mod Fixed
pub mod Layouts
pub mod Bounds
