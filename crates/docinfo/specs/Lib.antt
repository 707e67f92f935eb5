pub mod Only
pub mod Widths
pub mod Counts
pub mod DocInfo
pub mod SoundDocInfo
pub mod Examples
