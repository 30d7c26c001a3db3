mod WordLaws
mod RootLaws
mod RoundedLaws
mod PowerLaws
mod CertainLaws
pub mod FitLaws
mod TermLaws
mod AnswerLaws
mod TableEntryLaws
mod TrimmedLaws
