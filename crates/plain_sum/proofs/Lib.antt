pub mod Labelled
pub mod Placed
pub mod Recursion
