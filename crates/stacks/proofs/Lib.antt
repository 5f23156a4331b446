pub mod Fitting
pub mod Fractions
pub mod Joined
pub mod Matches
pub mod Running
pub mod Shifting
pub mod Stacking
pub mod Sums
