pub mod Reach
pub mod Values
