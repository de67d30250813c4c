pub mod Narrowed
pub mod Under
