pub mod NamedLaws
pub mod ReadLaws
pub mod HeldLaws
pub mod LibraryLaws
pub mod PrintLaws
