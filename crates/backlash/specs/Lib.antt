pub mod BacklashLayers
pub mod Marked
pub mod TakeUps
pub mod BacklashLaws
pub mod Taking
