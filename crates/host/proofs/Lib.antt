pub mod ToldLaws
pub mod ToldTableLaws
pub mod ToldPackLaws
pub mod ReadBack
