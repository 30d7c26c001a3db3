pub mod AddingLaws
pub mod WarmthLaws
pub mod FrameLaws
pub mod Cited
pub mod RowLaws
