pub mod Count
pub mod Found
pub mod Left
