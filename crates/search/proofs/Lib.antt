pub mod ClosingLaws
pub mod FitLaws
pub mod BareLaws
pub mod LookLaws
pub mod SearchLaws
pub mod AcceptLaws
