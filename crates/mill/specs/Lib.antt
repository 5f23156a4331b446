pub mod Asked
pub mod Calls
pub mod Mills
pub mod Runs
