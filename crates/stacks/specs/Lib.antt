pub mod Joined
pub mod Runs
pub mod Stack
pub mod StackLaws
