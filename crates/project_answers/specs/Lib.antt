pub mod Lines
pub mod Holds
pub mod Spots
pub mod Parts
pub mod RowLines
pub mod Wrong
pub mod Words
pub mod ImpliedLines
