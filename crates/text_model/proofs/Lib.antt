pub mod Evaluated
pub mod Listed
