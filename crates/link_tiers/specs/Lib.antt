pub mod Answered
pub mod Tiers
pub mod Picks
