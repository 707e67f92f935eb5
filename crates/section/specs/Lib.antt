pub mod Parents
pub mod Seats
pub mod Windows
pub mod Sweeps
pub mod Section
pub mod Slots
pub mod Promise
