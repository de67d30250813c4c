pub mod ExampleLaws
pub mod ChangeLaws
