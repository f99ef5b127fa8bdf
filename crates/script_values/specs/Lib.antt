pub mod Colours
pub mod Drawings
pub mod Refusals
pub mod Scripts
