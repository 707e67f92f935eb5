pub mod CheckLaws
pub mod Orders
pub mod Promises
pub mod Room
