pub mod Closures
pub mod Letters
