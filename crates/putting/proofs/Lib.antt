pub mod PuttingLaws
pub mod KeepingLaws
