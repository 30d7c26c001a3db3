pub mod Remembered
pub mod steps
