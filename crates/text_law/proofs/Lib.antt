pub mod Bodies
pub mod Copies
pub mod Fields
pub mod Headings
pub mod WholeTexts
