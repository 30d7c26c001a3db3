-- What serves the code's own steps; no reader need believe it.
pub mod Frames
pub mod Writer
pub mod HourLines
