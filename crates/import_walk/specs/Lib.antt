pub mod Deferred
pub mod Plain
