pub mod CodeLaws
mod BigEndianLaws
pub mod PackingLaws
pub mod RoundTripLaws
mod FieldLaws
pub mod HeldLaws
pub mod AccountLaws
mod PartLaws
mod TakingLaws
mod StoringLaws
mod FeedingLaws
pub mod RunLaws
mod TrialPartLaws
pub mod ContentsLaws
pub mod TrialRoundTripLaws
