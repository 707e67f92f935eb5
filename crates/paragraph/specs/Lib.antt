pub mod View
pub mod Stream
pub mod Rules
pub mod Places
pub mod Steps
