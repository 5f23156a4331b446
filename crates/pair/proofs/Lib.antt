pub mod Alike
pub mod Ran
pub mod Targets
