pub mod Cases
pub mod Motors
pub mod Replies
pub mod States
