pub mod Numbers
pub mod Order
pub mod Example
pub mod Rows
