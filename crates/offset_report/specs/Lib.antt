pub mod Inputs
pub mod Offsets
pub mod Readings
pub mod Reports
