pub mod Axes
pub mod Bank
pub mod BankLaws
pub mod Cases
pub mod BankProofs
