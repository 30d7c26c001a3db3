pub mod CallLaws
pub mod FloatLaws
pub mod HeldLaws
pub mod PlaceLaws
pub mod SaidLaws
pub mod SeasonLaws
pub mod ShownLaws
pub mod Row13Laws
pub mod PromiseLaws
pub mod TakenLaws
pub mod TrialLaws
pub mod Cited
mod CitedTrials
