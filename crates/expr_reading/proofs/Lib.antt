pub mod PositionLaws
pub mod TurnLaws
pub mod ReadLaws
