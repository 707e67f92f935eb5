pub mod BehindLaws
pub mod SheetLaws
pub mod WholeLaws
pub mod CallLaws
