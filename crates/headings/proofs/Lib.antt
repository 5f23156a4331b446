pub mod Capacities
pub mod Planes
