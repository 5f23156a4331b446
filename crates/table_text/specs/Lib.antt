pub mod HeadingTexts
pub mod TableTexts
