pub mod Keys
pub mod Trees
pub mod Operators
pub mod Meant
pub mod Reading
pub mod Valuing
pub mod Slots
pub mod Laws
