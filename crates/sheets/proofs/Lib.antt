pub mod Entering
pub mod Held
