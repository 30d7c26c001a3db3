-- What serves the code's own steps; no reader need believe it.
pub mod Given
pub mod Flux
pub mod Humidity
pub mod Rows
