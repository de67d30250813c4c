pub mod Ranks
pub mod Waits
