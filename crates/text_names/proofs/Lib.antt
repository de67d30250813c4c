pub mod PlaceWalk
pub mod PlaceLaws
pub mod NameLaws
