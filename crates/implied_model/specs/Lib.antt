pub mod Implied
