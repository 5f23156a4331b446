pub mod Below
pub mod Laid
pub mod SheetLayers
pub mod SheetLaws
pub mod Laying
