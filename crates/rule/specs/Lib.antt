pub mod Rule
pub mod Refusal
