pub mod Hits
pub mod Walked
