pub mod Copies
pub mod MarkedTexts
pub mod TextLaw
