pub mod Pages
pub mod TableTexts
