pub mod MillsLaw
pub mod Moments
pub mod Pairs
pub mod Rest
pub mod Same
