pub mod RankLaws
pub mod WaitLaws
