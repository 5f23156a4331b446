pub mod Marked
pub mod ValueLaws
pub mod Values
