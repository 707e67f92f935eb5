pub mod Units
pub mod Asked
pub mod Walk
pub mod Answers
pub mod Mirror
pub mod Promise
