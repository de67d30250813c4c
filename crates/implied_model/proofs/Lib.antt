pub mod FoundOwners
pub mod RankOrder
