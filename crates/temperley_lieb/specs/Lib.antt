pub mod Elements
pub mod Stacks
