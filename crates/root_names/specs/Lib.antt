pub mod Firsts
pub mod Roots
pub mod Sample
pub mod Steps
