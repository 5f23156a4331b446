pub mod LawProofs
pub mod Walking
