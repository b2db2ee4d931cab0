pub mod Inputs
mod Known
mod Given
