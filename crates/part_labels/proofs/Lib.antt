pub mod Forests
pub mod Labelled
pub mod Entries
