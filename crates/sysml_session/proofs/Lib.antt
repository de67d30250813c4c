pub mod Bare
pub mod Commands
pub mod Loops
pub mod Ways
