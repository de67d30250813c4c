pub mod ExactlyLaws
pub mod TextLaws
