pub mod Changes
pub mod Driving
