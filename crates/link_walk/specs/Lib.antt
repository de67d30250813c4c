pub mod Marks
pub mod Noted
pub mod Took
pub mod Gained
pub mod Calls
pub mod Wanted
