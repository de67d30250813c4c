pub mod Listed
pub mod AskedPairs
pub mod Answered
