pub mod ArrivedLaws
pub mod EditedLaws
pub mod FactLaws
pub mod KeptLaws
pub mod KeyLaws
pub mod RightLaws
pub mod SettledLaws
mod StandingLaws
pub mod WorkLaws
