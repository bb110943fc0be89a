-- Templates, and the quotas that are derived from them.
pub mod ComingLaws
pub mod EligibleLaws
pub mod GetsLaws
pub mod MatchLaws
pub mod PutLaws
pub mod ReceivesLaws
pub mod UpdateDue
