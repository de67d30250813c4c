pub mod SortedLaws
pub mod StepLaws
