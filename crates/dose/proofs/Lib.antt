pub mod NumberLaws
pub mod DecayLookup
pub mod RememberedLaws
mod TableLaws
mod SplitLaws
mod SmallLaws
