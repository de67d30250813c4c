pub mod Telling
pub mod Drafted
