pub mod Tests
pub mod Fields
pub mod Words
pub mod Streams
pub mod Same
pub mod Signed
pub mod Examples
