pub mod Demand
pub mod Measured
pub mod Numbers
pub mod Room
