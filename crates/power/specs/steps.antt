-- What serves the code's own steps; no reader need believe it.
pub mod Asked
pub mod Power
pub mod Tables
