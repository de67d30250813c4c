mod SettledLaws
pub mod FoundLaws
