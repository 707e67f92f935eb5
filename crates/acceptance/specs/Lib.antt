pub mod Keeps
pub mod Section
