pub mod Positions
pub mod Sources
pub mod Turns
