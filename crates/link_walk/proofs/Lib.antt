pub mod MarkLaws
pub mod TookLaws
pub mod GainLaws
pub mod ElementLaws
pub mod ReferenceLists
pub mod AnswerLaws
