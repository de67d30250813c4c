pub mod ElementLaws
pub mod RedefinedLaws
pub mod DecidingLaws
