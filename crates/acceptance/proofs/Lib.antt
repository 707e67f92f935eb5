pub mod ChainLaws
pub mod ParagraphReader
pub mod PlaceLaws
pub mod SiblingLaws
pub mod SectionReader
pub mod NeverSeven
