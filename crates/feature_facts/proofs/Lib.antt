pub mod Tests
pub mod Asides
pub mod Noting
pub mod SearchParts
pub mod PartNames
pub mod TableLaws
pub mod FactLaws
pub mod OwnedStands
