pub mod Cases
pub mod Lists
pub mod MemberLaws
pub mod OrderLaws
