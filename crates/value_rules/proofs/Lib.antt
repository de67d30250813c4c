pub mod RuleLaws
pub mod ReachLaws
