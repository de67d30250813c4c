pub mod StageLaws
pub mod OpenExpands
pub mod TestLaws
