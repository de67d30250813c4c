pub mod Answers
pub mod Commands
pub mod Cut
pub mod Refusals
pub mod Stops
