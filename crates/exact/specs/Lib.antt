pub mod Frac
pub mod Rounding
pub mod Root
pub mod Series
