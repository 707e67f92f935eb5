pub mod LocateLaws
pub mod AcceptLaws
pub mod FillLaws
pub mod ValueLaws
pub mod NearLaws
