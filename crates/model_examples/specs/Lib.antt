pub mod Drawn
pub mod Worked
