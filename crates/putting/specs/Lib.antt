pub mod Putting
pub mod Sheet
pub mod Keeping
