pub mod Causes
pub mod Clip
pub mod Memories
pub mod Ranges
pub mod Step
