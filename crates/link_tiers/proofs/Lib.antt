pub mod AnsweredLaws
pub mod TierLaws
pub mod PickLaws
pub mod PartLaws
pub mod RootLaws
pub mod NamespaceLaws
