pub mod Streams
pub mod Shelves
