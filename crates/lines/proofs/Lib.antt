pub mod Puts
pub mod Numbers
pub mod Signs
