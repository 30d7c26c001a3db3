pub mod Number
pub mod Input
pub mod ComparisonLine
pub mod StretchLine
