pub mod Places
pub mod Shifts
pub mod Sizes
pub mod Sums
