pub mod Promise
pub mod ToldTable
pub mod ToldPack
