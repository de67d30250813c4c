pub mod RemovalLaws
pub mod ElsewhereLaws
