pub mod Words
pub mod Values
pub mod Targets
