pub mod Answers
pub mod Trimmed
pub mod steps
