pub mod Headings
pub mod Stops
pub mod Windows
