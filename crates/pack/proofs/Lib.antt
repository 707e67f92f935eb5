pub mod PutLaws
pub mod RowLaws
pub mod JudgeLaws
pub mod LayLaws
pub mod Reader
pub mod PackLaws
pub mod RoundLaws
pub mod RoundTrip
