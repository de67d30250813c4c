pub mod ExpandLaws
pub mod CallLaws
