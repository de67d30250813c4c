pub mod Courses
pub mod Hiding
pub mod Starts
