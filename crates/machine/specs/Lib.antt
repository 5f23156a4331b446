pub mod Machines
pub mod Records
