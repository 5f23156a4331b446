pub mod Cuts
pub mod Heads
