pub mod SameLaws
pub mod TakeLaws
pub mod TrialLaws
pub mod Cited
mod TryLaws
