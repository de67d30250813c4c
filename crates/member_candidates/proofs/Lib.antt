pub mod OpenLists
pub mod CandidateLaws
pub mod StandLaws
