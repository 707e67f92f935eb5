pub mod Replacing
pub mod Shapes
pub mod Fields
pub mod Editing
pub mod Search
pub mod Filling
pub mod Placing
pub mod Accepted
