pub mod Fronts
pub mod NumberLaws
