pub mod Clauses
pub mod Codes
