pub mod Same
pub mod Trial
pub mod Taking
pub mod Promise
