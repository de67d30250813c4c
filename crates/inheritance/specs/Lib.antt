pub mod Sights
pub mod BaseStands
pub mod GeneralLaws
pub mod RedefinedLaws
