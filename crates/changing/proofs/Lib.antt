pub mod ChildLaws
pub mod HeadLaws
