pub mod Exactly
pub mod Texts
