pub mod Accepted
pub mod Searching
pub mod Steps
