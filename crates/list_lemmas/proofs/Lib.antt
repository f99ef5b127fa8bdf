pub mod Bools
pub mod Integers
pub mod Sums
pub mod Members
pub mod Items
pub mod Ranges
pub mod Times
pub mod Increasing
pub mod Permuted
mod Examples
