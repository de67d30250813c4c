pub mod ListedLaws
pub mod PairLaws
pub mod HeldLaws
pub mod FoundLaws
