pub mod Crossings
pub mod Brackets
