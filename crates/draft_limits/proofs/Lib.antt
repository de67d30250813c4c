pub mod Leasts
mod Sorting
