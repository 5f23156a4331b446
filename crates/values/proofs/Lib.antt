pub mod Between
pub mod Bounded
pub mod Entries
pub mod Halves
pub mod Points
pub mod Ranges
pub mod Repeats
pub mod Sizes
