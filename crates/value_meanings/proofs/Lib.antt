pub mod ListLaws
pub mod SettledLaws
pub mod HomeLaws
pub mod StandingLaws
pub mod SoleLaws
