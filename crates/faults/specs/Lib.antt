pub mod FaultTexts
pub mod Faults
