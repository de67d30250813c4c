pub mod BearerLaws
pub mod HitLaws
pub mod WayLaws
pub mod SkipLaws
